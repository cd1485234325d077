use Rattle.clr_rules.proofs.lists.LeastHold.{least_hold_is_named, none_is_named}
use Rattle.clr_rules.proofs.laws.holds.least_hold_is_named.Goals as goal

pub returns-clause-least : goal.returns-clause-least
returns-clause-least c = least_hold_is_named

pub returns-clause-none : goal.returns-clause-none
returns-clause-none c = none_is_named
