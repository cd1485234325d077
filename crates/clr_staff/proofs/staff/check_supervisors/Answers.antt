use Rattle.std.proofs.Common.{◌∙◌, not, sym}
use Rattle.std.proofs.lemmas.Bool.{not-false}
use Rattle.clr_net.proofs.Places.{all_fail}
use Rattle.clr_staff.specs.Staff.{has_known_supervisor, is_own_supervisor, staff_names}
use Rattle.clr_staff.specs.declared.employee.StaffRow.{StaffRow}
use Rattle.clr_staff.proofs.staff.check_supervisors.Goals as goal

pub returns-clause-known : goal.returns-clause-known
returns-clause-known c k d inside =
    let names = staff_names c.args.by_name.now in
    not-false _ (all_fail (λ (row : StaffRow). not (has_known_supervisor names row)) c.args.rows.now (sym c.unknown_supervisor.ensures ∙ c.in_default.is) k d inside)

pub returns-clause-differ : goal.returns-clause-differ
returns-clause-differ c = all_fail is_own_supervisor c.args.rows.now (sym c.own_supervisor.ensures ∙ c.in_default-own_supervisor.is)
