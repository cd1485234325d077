use Rattle.clr_staff.proofs.StaffFacts.{staff_has_no_fault}
use Rattle.clr_staff.proofs.laws.staff_has_no_fault.Goals as goal

pub returns : goal.returns
returns c = staff_has_no_fault
