use Rattle.std.proofs.Common.{length}
use Rattle.clr_http.proofs.fields.+has_field.Given as goal

abbrev pub decreases-has_field : goal.decreases-has_field
decreases-has_field l = length l.headers.now
