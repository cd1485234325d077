use Rattle.std.proofs.Common.{length}
use Rattle.clr_http.proofs.length.+only_length.Given as goal

abbrev pub decreases-only_length : goal.decreases-only_length
decreases-only_length l = length l.headers.now
