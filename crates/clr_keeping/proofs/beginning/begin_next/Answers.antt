use Rattle.std.proofs.Common.{◌⊎◌, inl, inr}
use Rattle.clr_keeping.specs.Beginning.{IsOfBegun}
use Rattle.clr_keeping.specs.TakenUp.{IsOfTakingUp}
use Rattle.clr_keeping.proofs.Keeping.{of_database-taking}
use Rattle.clr_edge.proofs.Databases.{IfErr-from, IfErr-passed, first_fault-of}
use Rattle.clr_keeping.proofs.beginning.begin_next.Goals as goal

pub returns-in_err-desk-clause-fault : goal.returns-in_err-desk-clause-fault
returns-in_err-desk-clause-fault g c =
    IfErr-passed _ _ (λ fault. IsOfTakingUp fault ⊎ IsOfBegun fault) c.from_residual.ensures.1 (inl c.in_err-desk.ensures.fault)

-- the register was taken up, the next part begun, or not, and the database closed
pub returns-in-Logged-clause-visit : goal.returns-in-Logged-clause-visit
returns-in-Logged-clause-visit g c =
    let up = rw c.in-Logged.is at c.in_ok-desk.ensures.up in
    inr (
      c.in-Logged.desk,
      c.take_up.new.rt,
      c.go_on-begun.new.rt,
      c.go_on-begun.result.1,
      c.go_on-begun.result.0,
      c.close-closed-in-Logged.result,
      up,
      c.go_on-begun.ensures.next,
      c.close-closed-in-Logged.ensures,
      c.first_fault.ensures,
    )

pub returns-in-Logged-clause-fault : goal.returns-in-Logged-clause-fault
returns-in-Logged-clause-fault g c =
    first_fault-of c.go_on-begun.result.0 c.close-closed-in-Logged.result _ (λ fault. IsOfTakingUp fault ⊎ IsOfBegun fault) c.first_fault.ensures
    (IfErr-from c.go_on-begun.result.0 (λ fault. IsOfBegun fault) (λ fault. IsOfTakingUp fault ⊎ IsOfBegun fault) (λ fault is. inr is) c.go_on-begun.ensures.fault)
    (λ cause. inl (of_database-taking cause))
