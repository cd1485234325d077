use Rattle.std.proofs.Common.{refl}
use Rattle.clr_rules.proofs.edits.EditReading.{state_of-changed}
use Rattle.clr_rules.proofs.laws.edits.states_are_set.Goals as goal

pub returns-clause-position : goal.returns-clause-position
returns-clause-position c = λ R p position q. state_of-changed (λ state. record state { position = position }) (λ _. refl) p q R.states

pub returns-clause-hand : goal.returns-clause-hand
returns-clause-hand c = λ R p hand q. state_of-changed (λ state. record state { hand = hand }) (λ _. refl) p q R.states
