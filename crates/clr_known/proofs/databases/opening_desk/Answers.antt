use Rattle.std.proofs.Common.{◌≡◌, ◌∙◌, subst, List}
use Rattle.sqlite.specs.Held.{state}
use Rattle.clr_staff.specs.Staff.{IsStaff}
use Rattle.clr_staff.specs.declared.employee.StaffRow.{StaffRow}
use Rattle.clr_load.specs.Stored.{HasTables}
use Rattle.clr_net.specs.Grid.{Grid, IsNetwork}
use Rattle.clr_rules.proofs.good.Opening.{opening_is_good}
use Rattle.clr_rules.specs.Register.{Register, opening}
use Rattle.clr_rules.specs.Run.{IsReached}
use Rattle.clr_examples.specs.Worked.{worked_net, worked_opening, worked_staff}
use Rattle.clr_load.specs.Tables.{tables_of}
use Rattle.clr_known.proofs.databases.opening_desk.Goals as goal

pub returns-in-Ok-clause-good : goal.returns-in-Ok-clause-good
returns-in-Ok-clause-good g c =
    opening_is_good worked_net worked_staff
    (subst (λ (g : Grid). IsNetwork g) c.in_ok-network.ensures c.is_network.ensures)
    (subst (λ (staff : List StaffRow). IsStaff staff) c.in_ok-staff.ensures c.is_staff.ensures)

pub returns-in-Ok-clause-reached : goal.returns-in-Ok-clause-reached
returns-in-Ok-clause-reached g c =
    let same : opening c.in_ok-network.network c.in_ok-staff.staff ≡ worked_opening =
    λ i. opening (c.in_ok-network.ensures i) (c.in_ok-staff.ensures i) in
    subst IsReached (c.in-Ok.ensures.register ∙ same) c.in-Ok.ensures.reached

pub returns-in-Ok-clause-made : goal.returns-in-Ok-clause-made
returns-in-Ok-clause-made g c clean =
    let same : opening c.in_ok-network.network c.in_ok-staff.staff ≡ worked_opening =
    λ i. opening (c.in_ok-network.ensures i) (c.in_ok-staff.ensures i) in
    let (saved, has) = c.in-Ok.ensures.made clean in
    (saved, subst (λ (R : Register). HasTables (state g.S.Store c.in-Ok.desk.store).now (tables_of R)) same has)
