-- STAFFED REGISTERS: what every reached register has besides being good, so that the staff can end
-- each clearance. Good does not ask for it.
use Rattle.std.specs.Prelude.{◌≡◌, ◌⊎◌, ℕ, Bool, true, false, List, find, All, Option, None}
use Rattle.std.specs.Prelude.{Some}
use Rattle.std.specs.Option.{is_some}
use Rattle.clr_staff.specs.declared.employee.Role.{Role}
use Rattle.clr_staff.specs.declared.employee.StaffRow.{StaffRow}
use Rattle.clr_rules.specs.Checks.{employee, has_role, is_charge, is_field, is_operator}
use Rattle.clr_rules.specs.Prelude.{HoldKind, HeldOpen, Record, Id, Register, record_of}
use Rattle.clr_rules.specs.Prelude.{is_restoring, all_done, is_active, is_some_step, steps_in}
use Rattle.clr_rules.specs.Prelude.{is_point_kind, has_hold}
use Rattle.clr_rules.specs.Records.{is_open, is_released}

-- the first employee whose role fits; the staff are in the order of their names
abbrev pub first_of_role : List StaffRow → (Role → Bool) → Option StaffRow
first_of_role staff fits = find (λ row. fits row.role) staff

-- whether the staff has an employee whose role fits
abbrev pub has_some_role : List StaffRow → (Role → Bool) → Bool
has_some_role staff fits = is_some (first_of_role staff fits)

-- the role of a holder, by the work section: a switch order has none, and is an operator's
abbrev pub fits_holder : Option (List ℕ) → Role → Bool
fits_holder None role = is_operator role
fits_holder (Some work) role = is_charge role

-- STAFFED: the holder of each open record is in the staff, in charge or, of a switch order, an
-- operator; where there is a step the staff has an operator, and where something is held at a
-- point it has a field employee; a step that is given out is of the first round or the second; a
-- Released record holds some point open, and a Restoring one has a step left to do
pub record IsStaffed (R : Register) : Type 0 where
  pub holders : (c : Id) (r : Record) → record_of R.records c ≡ Some r → is_open r.phase ≡ true
      → has_role (fits_holder r.work) (employee R.staff r.holder) ≡ true
  pub operators : is_some_step R.steps ≡ true → has_some_role R.staff is_operator ≡ true
  pub field : (c : Id) (kind : HoldKind) (p : List ℕ) → is_point_kind kind ≡ true
      → has_hold R.holds c kind p ≡ true
      → has_some_role R.staff is_field ≡ true
  pub rounds : All
      (λ row. is_active row.step.state ≡ true → (row.round ≡ 1) ⊎ (row.round ≡ 2)) R.steps
  pub released : (c : Id) (r : Record) → record_of R.records c ≡ Some r
      → is_released r.phase ≡ true
      → (p : List ℕ) × (has_hold R.holds c HeldOpen p ≡ true)
  pub restoring : (c : Id) (r : Record) → record_of R.records c ≡ Some r
      → is_restoring r.phase ≡ true → all_done (steps_in R.steps c 2) ≡ false

-- STAFFED THROUGHOUT: staffed, and the holders of closed records too have their role
pub record IsStaffedThroughout (R : Register) : Type 0 where
  pub staffed : IsStaffed R
  pub holders : (c : Id) (r : Record) → record_of R.records c ≡ Some r
      → has_role (fits_holder r.work) (employee R.staff r.holder) ≡ true
