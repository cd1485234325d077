use Rattle.std.proofs.Common.{◌≡◌, ◌∙◌, IsPermutation, List, ap, is_some, subst, sym}
use Rattle.clr_net.specs.Name.{name_cmp}
use Rattle.clr_rules.proofs.good.Opening.{in_key_order-from_sorted}
use Rattle.clr_staff.specs.Staff.{first_fault}
use Rattle.clr_staff.specs.declared.employee.StaffRow.{StaffRow}
use Rattle.clr_update.proofs.Passed.{ordered_is}
use Rattle.clr_update.specs.Delta.{passed, staff_left}
use Rattle.clr_update.specs.Rows.{same_employee}
use Rattle.clr_update.specs.Shown.{as_changes}
use Rattle.clr_changes.proofs.made.staff_of.Goals as goal

pub returns-in-Ok : goal.returns-in-Ok
returns-in-Ok g c =
    let R = c.args.book.now.register in
    let of = as_changes c.args.changes.now in
    let (none, is) = c.in-Ok.ensures in
    let staff = c.in-Ok.staff in
    let was = c.rows-was.ensures.rows ∙ c.staff.ensures in
    let rows : c.in_ok-rows.rows.items ≡ staff_left R of = c.in_ok-rows.ensures
    ∙ (λ i. passed same_employee (c.deref.ensures.value i) (c.deref-2.ensures.value i) (was i)) in
    let own = ordered_is (λ (row : StaffRow). row.name) (staff_left R of) staff
    (subst (λ (l : List StaffRow). IsPermutation l staff) rows is.all_rows)
    (in_key_order-from_sorted name_cmp (λ (row : StaffRow). row.name) staff is.is_staff.names_rise) in
    ((λ i. is_some (first_fault (sym rows i))) ∙ ap is_some none, sym own)
