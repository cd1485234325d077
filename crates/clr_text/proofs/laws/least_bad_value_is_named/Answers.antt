use Rattle.clr_text.proofs.KeyFaults.{least_bad_value_is_named}
use Rattle.clr_text.proofs.laws.least_bad_value_is_named.Goals as goal

pub returns : goal.returns
returns c = least_bad_value_is_named
