-- Commands that make a new clearance: a request.
use Rattle.std.proofs.Common.{◌≡◌, ℕ, Bool, true, false, not, List, [], ◌∷◌, Option, Some, None, refl, sym, ◌∙◌, ap, subst, is_some, IsTrue}
use Rattle.clr_rules.proofs.Common.{All-nil, false≢true, Grid, StepRow, point_names, section_names, has_name, StaffRow, is_operators, Request}
use Rattle.clr_staff.specs.declared.employee.Role.{Role}
use Rattle.clr_staff.specs.declared.employee.Role.TheVariants.{Operator}
use Rattle.clr_rules.specs.Changes.{new_record}
use Rattle.clr_rules.specs.Checks.{employee, has_role, is_charge, is_operator, refuse, unknown_caller, wrong_role}
use Rattle.clr_rules.specs.Prelude.{PutRecord, Requested, Record, Id, Register, greatest_number, record_of, after_edits, UnknownCaller, UnknownSection, WrongRole}
use Rattle.clr_rules.specs.GoodByPhase.{InPlaceAs, IsBare, IsGoodByPhase, outlook_of}
use Rattle.clr_rules.proofs.good.Keeping.{KeepsGood, commands_keep, keeps}
use Rattle.clr_rules.proofs.edits.NewRecords.{new_numbered, next_is_free}
use Rattle.clr_rules.proofs.edits.Passing.{check_of_found, not_refused_true}
use Rattle.clr_rules.proofs.edits.PutRecords.{changed_by, quiet}

-- the caller's role
pub caller_role : (R : Register) (by : List ℕ) (fits : Role → Bool) → unknown_caller R by ≡ None → wrong_role R by fits ≡ None
    → (row : StaffRow) × (employee R.staff by ≡ Some row) × (fits row.role ≡ true)
caller_role R by fits known right = at (employee R.staff by) refl (not_refused_true (is_some (employee R.staff by)) UnknownCaller known)
  where
    at : (o : Option StaffRow) → employee R.staff by ≡ o → is_some o ≡ true → (row : StaffRow) × (employee R.staff by ≡ Some row) × (fits row.role ≡ true)
    at None none there = absurd (false≢true there)
    at (Some row) found there = (
      row,
      found,
      not_refused_true (fits row.role) WrongRole
          (check_of_found (employee R.staff by) row (λ (row : StaffRow). refuse (not (fits row.role)) WrongRole) found right),
    )

pub charge_operates_not : (role : Role) → is_charge role ≡ true → is_operator role ≡ false
charge_operates_not Operator h = cc
charge_operates_not _ h = refl

-- of a clearance that nobody asked for there is nothing
pub bare_before : (R : Register) (c : Id) → IsGoodByPhase R → record_of R.records c ≡ None → IsBare (outlook_of R c)
bare_before R c good none = subst (λ (o : Option Record). InPlaceAs R.net o (outlook_of R c)) none (good.in_place c).phase

request_keeps : (R : Register) (by : List ℕ) (at : ℕ) (section : List ℕ) → IsGoodByPhase R
    → has_name (section_names (Grid.sections R.net)) section ≡ true → is_operators R by ≡ false
    → IsGoodByPhase (after_edits (PutRecord (new_record (greatest_number R.records by) by at (Some section) Requested) ∷ []) R)
unfolding after_edits
request_keeps R by at section good known not_operator =
    let new = new_record (greatest_number R.records by) by at (Some section) Requested in
    let bare = bare_before R new.id good (next_is_free R by) in
    keeps R (PutRecord new ∷ []) new.id refl good (changed_by R good new.id new refl (after_edits (PutRecord new ∷ []) R) refl
    (quiet R (after_edits (PutRecord new ∷ []) R) new.id new good (record {
      same_states = refl;
      point_holds = λ d kind p at_point has. has;
      other_holds = λ d differs kind place. refl;
      other_steps = λ d differs. refl;
      own_closing = λ p closing. closing;
      steps_known = rw bare.no_step (All-nil (λ (row : StepRow). IsTrue (has_name (point_names (Grid.points R.net)) row.step.point)));
    }) (record {
      in_turn = (good.in_place new.id).in_turn;
      hands = (good.in_place new.id).hands;
      phase = record { no_step = bare.no_step; no_hold = bare.no_hold };
    })) known (sym not_operator) (new_numbered R good by new refl))

pub requests_keep : (section : List ℕ) → KeepsGood (Request section)
requests_keep section = commands_keep (Request section) (λ R by at good passed.
    let (row, found, charge) = caller_role R by is_charge (search passed) (search passed) in
    request_keeps R by at section good (not_refused_true (has_name (section_names (Grid.sections R.net)) section) UnknownSection (search passed))
    (ap (has_role is_operator) found ∙ charge_operates_not row.role charge))
