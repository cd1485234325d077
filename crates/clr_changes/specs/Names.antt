-- Rows that are the same have one name.
use Rattle.std.specs.Prelude.{◌≡◌, true}
use Rattle.std.proofs.lemmas.Bool.{and_parts}
use Rattle.clr_net.specs.Name.{same_name}
use Rattle.clr_net.specs.declared.point.PointRow.{PointRow}
use Rattle.clr_net.specs.declared.section.SectionRow.{SectionRow}
use Rattle.clr_staff.specs.declared.employee.StaffRow.{StaffRow}
use Rattle.clr_update.specs.Rows.{same_employee, same_point, same_section}

pub sections_named : (a b : SectionRow) → same_section a b ≡ true → same_name a.name b.name ≡ true
sections_named a b same = (and_parts _ _ same).0

pub points_named : (a b : PointRow) → same_point a b ≡ true → same_name a.name b.name ≡ true
points_named a b same = (and_parts _ _ same).0

pub employees_named : (a b : StaffRow) → same_employee a b ≡ true → same_name a.name b.name ≡ true
employees_named a b same = (and_parts _ _ same).0
