use Rattle.std.proofs.Common.{refl}
use Rattle.clr_order.proofs.Undoing.{nothing_left, rule_undoes, undoes_rule}
use Rattle.clr_order.proofs.laws.undoing_is_tested.Goals as goal

pub returns-clause-tested : goal.returns-clause-tested
returns-clause-tested c = λ held actions. (undoes_rule held actions, rule_undoes held actions)

pub returns-clause-nothing : goal.returns-clause-nothing
returns-clause-nothing c = λ actions. (nothing_left actions, λ e. rw e refl)
