use Rattle.std.proofs.Common.{ap, subst, sym, List}
use Rattle.clr_staff.specs.Staff.{IsStaffOf}
use Rattle.clr_csv.specs.StaffRows.{staff_of}
use Rattle.clr_staff.specs.declared.employee.StaffRow.{StaffRow}
use Rattle.clr_edge.specs.declared.fault.ImportFile.TheVariants.{Staff}
use Rattle.clr_known.specs.Known.{staff_file}
use Rattle.clr_known.proofs.WorkedRows.{file_staff, is_worked_staff, rows_are, staff_read}
use Rattle.clr_known.proofs.databases.worked_staff.Goals as goal

pub returns : goal.returns
returns c =
    let staff = c.in_ok-staff.staff in
    let rows = rows_are Staff staff_of _ staff_file file_staff c.in_ok-rows.rows.items
    (ap (λ b. b.now) c.new.ensures.inner) staff_read c.in_ok-rows.ensures.rows in
    is_worked_staff staff (subst (λ (found : List StaffRow). IsStaffOf found staff) (sym rows) c.in_ok-staff.ensures.1)
