use Rattle.clr_order.proofs.Isolation.{least_source}
use Rattle.clr_order.proofs.laws.least_source_is_named.Goals as goal

pub returns : goal.returns
returns c = λ fence rising name found. least_source name fence.sections rising found
