use Rattle.std.proofs.Common.{◌≡◌, List, subst, true}
use Rattle.std.proofs.lemmas.Bool.{and_from}
use Rattle.std.specs.List.{list_all}
use Rattle.clr_net.specs.declared.point.PointRow.{PointRow}
use Rattle.clr_net.specs.declared.section.SectionRow.{SectionRow}
use Rattle.clr_staff.specs.declared.employee.StaffRow.{StaffRow}
use Rattle.clr_journal.specs.DeltaRows.{is_said_employee, is_said_point, is_said_section}
use Rattle.clr_journal.proofs.Back.{gone_said}
use Rattle.clr_journal.proofs.delta.can_be_said.Goals as goal

pub returns : goal.returns
returns c open_all =
    let rows = c.args.changes.now in
    let sections_go : list_all is_said_section rows.sections_go.items ≡ true = subst (λ (l : List SectionRow). list_all is_said_section l ≡ true) c.deref.ensures.value c.names_said.ensures in
    let sections_come : list_all is_said_section rows.sections_come.items ≡ true = subst (λ (l : List SectionRow). list_all is_said_section l ≡ true) c.deref-2.ensures.value c.names_said-2.ensures in
    let points_go : list_all is_said_point rows.points_go.items ≡ true = subst (λ (l : List PointRow). list_all is_said_point l ≡ true) c.deref-3.ensures.value c.names_said-3.ensures in
    let points_come : list_all is_said_point rows.points_come.items ≡ true = subst (λ (l : List PointRow). list_all is_said_point l ≡ true) c.deref-4.ensures.value c.names_said-4.ensures in
    let staff_goes : list_all is_said_employee rows.staff_goes.items ≡ true = subst (λ (l : List StaffRow). list_all is_said_employee l ≡ true) c.deref-5.ensures.value c.names_said-5.ensures in
    let staff_comes : list_all is_said_employee rows.staff_comes.items ≡ true = subst (λ (l : List StaffRow). list_all is_said_employee l ≡ true) c.deref-6.ensures.value c.names_said-6.ensures in
    and_from _ _ (and_from _ _ sections_go sections_come)
    (and_from _ _ (and_from _ _ (gone_said rows.points_go.items points_go open_all) points_come) (and_from _ _ staff_goes staff_comes))
