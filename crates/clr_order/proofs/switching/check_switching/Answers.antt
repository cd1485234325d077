use Rattle.std.proofs.Common.{sym, refl}
use Rattle.std.proofs.lemmas.Bool.{false≢true}
use Rattle.clr_order.proofs.OtherOrders.{switching_from_no_fault, no_fault_from_switching}
use Rattle.clr_order.proofs.switching.check_switching.Goals as goal

pub returns-in-Some-clause-switching : goal.returns-in-Some-clause-switching
returns-in-Some-clause-switching c =
    (λ e. absurd (false≢true e), λ r. let none = no_fault_from_switching _ _ r in absurd (cc (none, c.in-Some.ensures)))

pub returns-in-None-clause-switching : goal.returns-in-None-clause-switching
returns-in-None-clause-switching c = (λ _. switching_from_no_fault _ _ (sym c.in-None.ensures), λ _. refl)
