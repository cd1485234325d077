use Rattle.std.proofs.Common.{refl}
use Rattle.std.specs.Fmt.{digits}
use Rattle.clr_http.proofs.response.unavailable_text.Goals as goal

-- both are these bytes
pub returns : goal.returns
unfolding digits
returns c = refl
