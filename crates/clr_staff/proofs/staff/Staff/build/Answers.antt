use Rattle.std.proofs.Common.{◌∙◌, None, inl, inr}
use Rattle.std.proofs.lemmas.Result.{err_from_is_err_and}
use Rattle.clr_staff.specs.Staff.{size_fault}
use Rattle.clr_staff.proofs.StaffFacts.{first_fault_is, staff_from}
use Rattle.clr_staff.proofs.staff.Staff.build.Goals as goal

pub returns-in_err-check_supervisors : goal.returns-in_err-check_supervisors
returns-in_err-check_supervisors c =
    let rows = c.args.rows.items in
    let names = rw c.deref.ensures.value at c.in_ok-check_names.ensures.passes in
    let moved = rw c.deref-2.ensures.value at c.in_ok-by_name.ensures.all in
    let p = err_from_is_err_and c.from_residual-in_err-check_supervisors.result c.from_residual-in_err-check_supervisors.ensures.1 in
    rw (p.1, p.2) (elim c.in_err-check_supervisors.ensures.passes [
      | inl memory ↦ inl memory
      | inr found ↦ inr (first_fault_is rows c.in_ok-by_name.by_name.items moved names
          ∙ rw (c.deref-3.ensures.value, c.deref-4.ensures.value) at (found (size_fault rows None)))
    ])

pub returns-in_err-check_size : goal.returns-in_err-check_size
returns-in_err-check_size c =
    let rows = c.args.rows.items in
    let names = rw c.deref.ensures.value at c.in_ok-check_names.ensures.passes in
    let moved = rw c.deref-2.ensures.value at c.in_ok-by_name.ensures.all in
    let supervisors = rw (c.deref-3.ensures.value, c.deref-4.ensures.value) at c.in_ok-check_supervisors.ensures.passes in
    let p = err_from_is_err_and c.from_residual-in_err-check_size.result c.from_residual-in_err-check_size.ensures.1 in
    rw (p.1, p.2) (elim c.in_err-check_size.ensures.passes [
      | inl memory ↦ inl memory
      | inr found ↦ inr (first_fault_is rows c.in_ok-by_name.by_name.items moved names
          ∙ supervisors (size_fault rows None) ∙ rw c.deref-5.ensures.value at (found None))
    ])

pub invariant_of-result : goal.invariant_of-result
invariant_of-result c =
    let moved = rw c.deref-2.ensures.value at c.in_ok-by_name.ensures.all in
    let fits = rw c.deref-5.ensures.value at c.in_ok-check_size.ensures.fits in
    let known = rw (c.deref-3.ensures.value, c.deref-4.ensures.value) at c.in_ok-check_supervisors.ensures.known in
    let differ = rw c.deref-4.ensures.value at c.in_ok-check_supervisors.ensures.differ in
    staff_from c.args.rows.items c.in_ok-by_name.by_name.items moved fits c.in_ok-by_name.ensures.rising known differ

pub returns : goal.returns
returns c =
    let rows = c.args.rows.items in
    let names = rw c.deref.ensures.value at c.in_ok-check_names.ensures.passes in
    let moved = rw c.deref-2.ensures.value at c.in_ok-by_name.ensures.all in
    let supervisors = rw (c.deref-3.ensures.value, c.deref-4.ensures.value) at c.in_ok-check_supervisors.ensures.passes in
    let size = rw c.deref-5.ensures.value at c.in_ok-check_size.ensures.passes in
    let fits = rw c.deref-5.ensures.value at c.in_ok-check_size.ensures.fits in
    let known = rw (c.deref-3.ensures.value, c.deref-4.ensures.value) at c.in_ok-check_supervisors.ensures.known in
    let differ = rw c.deref-4.ensures.value at c.in_ok-check_supervisors.ensures.differ in (
      first_fault_is rows c.in_ok-by_name.by_name.items moved names ∙ supervisors (size_fault rows None) ∙ size None,
      record {
        all_rows = moved;
        is_staff = staff_from rows c.in_ok-by_name.by_name.items moved fits c.in_ok-by_name.ensures.rising known differ;
      },
    )
