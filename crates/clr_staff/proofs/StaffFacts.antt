-- How the stages of the checks make up the first fault of a staff, and what a sort leaves as it was.
use Rattle.std.proofs.Common.{◌≡◌, ◌∙◌, ◌≤◌, ℕ, Bool, false, not, arith, Option, Some, None, List, length, position, refl, sym, ap, All, IsTrue}
use Rattle.std.specs.List.Sorted.{IsPermutation, IsStrictlySortedBy}
use Rattle.std.proofs.lemmas.Bool.{le-ltb, not_from_true}
use Rattle.std.proofs.lemmas.Cmp.{nat_list_eq_equiv}
use Rattle.std.proofs.lemmas.List.Elements.{All-weaker}
use Rattle.std.proofs.lemmas.List.Sorted.{All-permutation, IsPermutation-map, IsPermutation-sym, length_permutation, list_any-IsPermutation}
use Rattle.std.proofs.lemmas.Map.Keys.{IsDistinct-IsPermutation}
use Rattle.clr_net.specs.Prelude.{name_cmp, same_name}
use Rattle.clr_net.proofs.Places.{all_none, distinct_from_rising, no_repeat}
use Rattle.clr_staff.specs.Staff.{IsStaff, IsStaffOf, first_fault, has_known_supervisor, is_known, is_own_supervisor, name_fault, row_fault, size_fault, staff_names, supervisor_fault}
use Rattle.clr_staff.specs.declared.employee.StaffRow.{StaffRow}
use Rattle.clr_staff.specs.declared.staff_fault.StaffFault.{StaffFault}
use Rattle.clr_staff.specs.declared.staff_fault.StaffFault.TheVariants.{OwnSupervisor, UnknownSupervisor}

-- the names of employees in another order
pub names_permuted : (rows staff : List StaffRow) → IsPermutation rows staff → IsPermutation (staff_names rows) (staff_names staff)
names_permuted rows staff moved = IsPermutation-map (λ (row : StaffRow). row.name) rows staff moved

-- the same names know the same supervisors
is_known-IsPermutation : (old new : List (List ℕ)) → IsPermutation old new → (supervisor : Option (List ℕ)) → is_known new supervisor ≡ is_known old supervisor
is_known-IsPermutation old new moved None = refl
is_known-IsPermutation old new moved (Some name) = sym (list_any-IsPermutation (same_name name) old new moved)

-- the order of the names plays no part in the faults of supervisors
supervisor_fault-IsPermutation : (old new : List (List ℕ)) → IsPermutation old new → (rows : List StaffRow) (rest : Option StaffFault) → supervisor_fault new rows rest ≡ supervisor_fault old rows rest
supervisor_fault-IsPermutation old new moved rows rest =
    let same : (λ (row : StaffRow). not (has_known_supervisor new row)) ≡ (λ (row : StaffRow). not (has_known_supervisor old row)) =
    λ i row. not (is_known-IsPermutation old new moved row.supervisor i) in
    ap (λ (q : StaffRow → Bool). row_fault UnknownSupervisor (position q rows) (row_fault OwnSupervisor (position is_own_supervisor rows) rest)) same

-- where no name comes twice, the first fault is that of the supervisors or of the size, in whatever order the names are looked up
pub first_fault_is : (rows staff : List StaffRow) → IsPermutation rows staff → ((rest : Option StaffFault) → name_fault rows rest ≡ rest)
    → first_fault rows ≡ supervisor_fault (staff_names staff) rows (size_fault rows None)
first_fault_is rows staff moved names =
    names (supervisor_fault (staff_names rows) rows (size_fault rows None))
    ∙ sym (supervisor_fault-IsPermutation (staff_names rows) (staff_names staff) (names_permuted rows staff moved) rows (size_fault rows None))

-- rows that pass each stage are a staff, once they are in the order of their names
pub staff_from : (rows staff : List StaffRow) → IsPermutation rows staff → length rows ≤ 2000 → IsStrictlySortedBy name_cmp (staff_names staff)
    → All (λ row. IsTrue (has_known_supervisor (staff_names staff) row)) rows → All (λ row. is_own_supervisor row ≡ false) rows → IsStaff staff
staff_from rows staff moved fit rise known differ =
    let size = length_permutation rows staff moved in
    record {
      rows_fit = omega arith;
      names_rise = rise;
      supervisors_known = All-permutation (λ row. IsTrue (has_known_supervisor (staff_names staff) row)) rows staff moved known;
      supervisors_differ = All-permutation (λ row. is_own_supervisor row ≡ false) rows staff moved differ;
    }

-- rows of which there is a staff have no fault
pub staff_has_no_fault : (rows staff : List StaffRow) → IsStaffOf rows staff → first_fault rows ≡ None
staff_has_no_fault rows staff is =
    let good = is.is_staff in
    let fit = good.rows_fit in
    let size = length_permutation rows staff is.all_rows in
    let names = staff_names staff in
    let names_moved = names_permuted rows staff is.all_rows in
    let back = IsPermutation-sym rows staff is.all_rows in
    let once = no_repeat (staff_names rows) (IsDistinct-IsPermutation same_name nat_list_eq_equiv.symm names (staff_names rows) (IsPermutation-sym (staff_names rows) names names_moved) (distinct_from_rising names good.names_rise)) in
    let known : All (λ row. not (has_known_supervisor names row) ≡ false) rows =
    All-permutation (λ row. not (has_known_supervisor names row) ≡ false) staff rows back
    (All-weaker (λ row. IsTrue (has_known_supervisor names row)) (λ row. not (has_known_supervisor names row) ≡ false) (λ row e. not_from_true _ e) staff good.supervisors_known) in
    let differ = All-permutation (λ row. is_own_supervisor row ≡ false) staff rows back good.supervisors_differ in
    first_fault_is rows staff is.all_rows (λ rest. rw once refl)
    ∙ rw (all_none (λ row. not (has_known_supervisor names row)) rows known, all_none is_own_supervisor rows differ, le-ltb 2000 (length rows) (omega arith)) refl
