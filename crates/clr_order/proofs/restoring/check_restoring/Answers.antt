use Rattle.std.proofs.Common.{sym, refl}
use Rattle.std.proofs.lemmas.Bool.{false≢true}
use Rattle.clr_order.proofs.OtherOrders.{restoring_from_no_fault, no_fault_from_restoring}
use Rattle.clr_order.proofs.restoring.check_restoring.Goals as goal

pub returns-in-Some-clause-restoring : goal.returns-in-Some-clause-restoring
returns-in-Some-clause-restoring c =
    (λ e. absurd (false≢true e), λ r. let none = no_fault_from_restoring _ _ r in absurd (cc (none, c.in-Some.ensures)))

pub returns-in-None-clause-restoring : goal.returns-in-None-clause-restoring
returns-in-None-clause-restoring c = (λ _. restoring_from_no_fault _ _ (sym c.in-None.ensures), λ _. refl)
