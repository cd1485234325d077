-- Phases that are open: all that a test asks for, where it does not ask for Closed.
use Rattle.std.proofs.Common.{◌≡◌, Bool, true, false, Option, Some, None, refl, sym}
use Rattle.std.proofs.lemmas.Bool.{both_ways, false≢true}
use Rattle.clr_rules.specs.Prelude.{Phase, Closed, Record}
use Rattle.clr_rules.specs.Records.{is_open}

pub open_where : (fits : Phase → Bool) → fits Closed ≡ false → (phase : Phase) → fits phase ≡ true → is_open phase ≡ true
open_where fits none Closed is = absurd (both_ways (fits Closed) none is)
open_where fits none _ is = refl

-- whether the record of a clearance is open, or there is none
abbrev pub found_open : Option Record → Bool
found_open None = true
found_open (Some r) = is_open r.phase

-- what is not open is Closed
pub closed_is : (phase : Phase) → is_open phase ≡ false → phase ≡ Closed
closed_is Closed is = refl
closed_is _ is = absurd (false≢true (sym is))
