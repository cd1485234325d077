use Rattle.std.proofs.Common.{length}
use Rattle.clr_http.proofs.fields.+only_field.Given as goal

abbrev pub decreases-only_field : goal.decreases-only_field
decreases-only_field l = length l.headers.now
