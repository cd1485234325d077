-- The value of changes has no number at all.
use Rattle.std.proofs.Common.{◌≡◌, false, refl}
use Rattle.serde_json.specs.Written.{has_float}
use Rattle.clr_staff.specs.declared.employee.StaffRow.{StaffRow}
use Rattle.clr_text.proofs.NoFloats.{in_list, in_optional}
use Rattle.clr_text.specs.Json.{name_data}
use Rattle.clr_update.specs.Changes.{Changes}
use Rattle.clr_journal.specs.Delta.{changes_data}
use Rattle.clr_journal.specs.DeltaRows.{employee_data, gone_data, point_data, section_data}

in_employee : (row : StaffRow) → has_float (employee_data row) ≡ false
in_employee row = rw (in_optional name_data (λ name. refl) row.supervisor) refl

pub in_changes : (of : Changes) → has_float (changes_data of) ≡ false
unfolding changes_data
in_changes of = rw (
  in_list point_data (λ p. refl) of.points_come,
  in_list gone_data (λ p. refl) of.points_go,
  in_list section_data (λ row. refl) of.sections_come,
  in_list section_data (λ row. refl) of.sections_go,
  in_list employee_data in_employee of.staff_comes,
  in_list employee_data in_employee of.staff_goes,
) refl
