-- A command whose checks all pass is accepted, and what it makes of the register.
use Rattle.std.proofs.Common.{◌≡◌, ℕ, Bool, true, false, nat_lt, List, [], ◌∷◌, Option, Some, None, is_some, Contains, refl, sym, ◌∙◌, ap, arith}
use Rattle.std.specs.List.{list_any}
use Rattle.std.proofs.lemmas.Bool.{false≢true, le-ltb}
use Rattle.clr_net.proofs.Walks.{one_name, same_itself}
use Rattle.clr_net.specs.Name.{same_name}
use Rattle.clr_order.proofs.Finds.{found_passes}
use Rattle.clr_staff.specs.Staff.{IsStaff}
use Rattle.clr_staff.specs.declared.employee.Role.{Role}
use Rattle.clr_staff.specs.declared.employee.StaffRow.{StaffRow}
use Rattle.clr_rules.specs.Answer.{Answer, answer, answer_by_checks, first_refusal, known_of, reply_after}
use Rattle.clr_rules.specs.Changes.{edits_by, with_record, with_step}
use Rattle.clr_rules.specs.Checks.{employee, has_role}
use Rattle.clr_rules.specs.Commands.{Known, by_holder, by_role, checks, edits_of}
use Rattle.clr_rules.specs.Good.{has_record}
use Rattle.clr_rules.specs.laws.Edits.{refusal_of}
use Rattle.clr_rules.specs.Prelude.{Edit, Command, Kind, Phase, Record, Refusal, StepRow, Id, Register, record_of, present_steps, step_at, after_edits}
use Rattle.clr_rules.specs.Run.{after}
use Rattle.clr_rules.specs.Staffed.{first_of_role, has_some_role}
use Rattle.clr_rules.specs.WayBack.{one_of_role}
use Rattle.clr_rules.specs.laws.WayBack.{IsMove, is_accepted, sets_position}
use Rattle.clr_rules.proofs.edits.Passing.{Pass}
use Rattle.clr_rules.proofs.edits.Refusing.{edited_all-has_record}
use Rattle.clr_rules.proofs.good.PutHolds.{found_there, one_of_name}
use Rattle.clr_rules.proofs.staffed.Puts.{finds}

pub none_refuses : (list : List (Option Refusal)) → Pass list → first_refusal list ≡ None
none_refuses [] h = refl
none_refuses (check ∷ rest) h = rw h.0 (none_refuses rest h.1)

-- what an accepted command makes: its edits
pub record Made (R : Register) (q : Command) (edits : List Edit) : Type 0 where
  pub accepted : is_accepted (Answer.reply (answer R q)) ≡ true
  pub edits_are : Answer.edits (answer R q) ≡ edits
  pub is_after : after R q ≡ after_edits edits R

-- and that it is a move, where none of its edits sets a position
pub is_move : (R : Register) (q : Command) (edits : List Edit) → Made R q edits → list_any sets_position edits ≡ false → IsMove R q
is_move R q edits m none = record { accepted = m.accepted; moves_no_point = ap (list_any sets_position) m.edits_are ∙ none }

-- the reply is that of an accepted command, where the clearance has a record
abbrev pub Accepts : Kind → Id → Type 0
Accepts kind c = (k : Known) (S : Register) (by : List ℕ) (s : Record) → record_of S.records c ≡ Some s → is_accepted (reply_after k S by kind) ≡ true

pub record_is : (S : Register) (c : Id) → has_record S.records c ≡ true → (s : Record) × (record_of S.records c ≡ Some s)
record_is S c has = at (record_of S.records c) refl has
  where
    at : (o : Option Record) → record_of S.records c ≡ o → is_some o ≡ true → (s : Record) × (record_of S.records c ≡ Some s)
    at None e some = absurd (false≢true some)
    at (Some s) e some = (s, e)

pub made : (R : Register) (q : Command) (c : Id) (edits : List Edit) → Accepts q.kind c → has_record R.records c ≡ true
    → Pass (checks (known_of R q) R q.caller q.moment q.kind) → edits_of (known_of R q).greatest R q.caller q.moment q.kind ≡ edits → Made R q edits
made R q c edits accepts has passes are =
    let k = known_of R q in
    let passed : refusal_of R q ≡ None = none_refuses (checks k R q.caller q.moment q.kind) passes in
    let own = edits_of k.greatest R q.caller q.moment q.kind in
    let (s, found) = record_is (after_edits own R) c (edited_all-has_record own R c has) in
    record {
      accepted = ap (λ refusal. is_accepted (Answer.reply (answer_by_checks k R q refusal))) passed ∙ accepts k (after_edits own R) q.caller s found;
      edits_are = ap (λ refusal. Answer.edits (answer_by_checks k R q refusal)) passed ∙ are;
      is_after = ap (λ refusal. after_edits (Answer.edits (answer_by_checks k R q refusal)) R) passed ∙ ap (λ edits. after_edits edits R) are;
    }

pub record_edits : (R : Register) (c : Id) (r : Record) (edits : Record → List Edit) → record_of R.records c ≡ Some r → with_record R c edits ≡ edits r
record_edits R c r edits found = ap (λ o. edits_by o edits) found

pub step_edits : (R : Register) (c : Id) (n : ℕ) (r : Record) (row : StepRow) (edits : Record → StepRow → List Edit) → record_of R.records c ≡ Some r
    → step_at (present_steps R.steps c) n ≡ Some row → with_step R c n edits ≡ edits r row
step_edits R c n r row edits found step =
    record_edits R c r (λ r. edits_by (step_at (present_steps R.steps c) n) (edits r)) found ∙ ap (λ o. edits_by o (edits r)) step

-- ---- who asks

-- an employee of this name, whose role fits
pub record HasEmployee (R : Register) (by : List ℕ) (fits : Role → Bool) : Type 0 where
  pub row : StaffRow
  pub found : employee R.staff by ≡ Some row
  pub role : fits row.role ≡ true

pub employee_of : (R : Register) (by : List ℕ) (fits : Role → Bool) → has_role fits (employee R.staff by) ≡ true → HasEmployee R by fits
employee_of R by fits has = at (employee R.staff by) refl has
  where
    at : (o : Option StaffRow) → employee R.staff by ≡ o → has_role fits o ≡ true → HasEmployee R by fits
    at None e h = absurd (false≢true h)
    at (Some row) e h = record { row = row; found = e; role = h }

-- the first employee of a role is found by the name
pub one_there : (R : Register) (fits : Role → Bool) → IsStaff R.staff → has_some_role R.staff fits ≡ true → HasEmployee R (one_of_role R fits) fits
one_there R fits staff some = at (first_of_role R.staff fits) refl some
  where
    by_name : (row found : StaffRow) → Contains R.staff row → employee R.staff row.name ≡ Some found → found ≡ row
    by_name row found there e =
        one_of_name (λ (row : StaffRow). row.name) R.staff staff.names_rise found row (found_there (λ (other : StaffRow). same_name row.name other.name) R.staff found e) there
        (sym (one_name row.name found.name (found_passes (λ (other : StaffRow). same_name row.name other.name) R.staff found e)))

    named : (row : StaffRow) → Contains R.staff row → (o : Option StaffRow) → employee R.staff row.name ≡ o → is_some o ≡ true → employee R.staff row.name ≡ Some row
    named row there None e h = absurd (false≢true h)
    named row there (Some found) e h = e ∙ ap Some (by_name row found there e)

    at : (o : Option StaffRow) → first_of_role R.staff fits ≡ o → is_some o ≡ true → HasEmployee R (one_of_role R fits) fits
    at None e h = absurd (false≢true h)
    at (Some row) e h =
        let there = found_there (λ (row : StaffRow). fits row.role) R.staff row e in
        record {
          row = row;
          found = rw e (named row there (employee R.staff row.name) refl (finds (λ (other : StaffRow). same_name row.name other.name) R.staff row there (same_itself row.name)));
          role = found_passes (λ (row : StaffRow). fits row.role) R.staff row e;
        }

-- ---- the first checks

module _ (R : Register) (c : Id) (r : Record) (found : record_of R.records c ≡ Some r) (by : List ℕ) where
  not_earlier : nat_lt r.last r.last ≡ false
  not_earlier = le-ltb r.last r.last (omega arith)

  pub role_passes : (roles : Role → Bool) (phases : Phase → Bool) (own : List (Option Refusal)) → HasEmployee R by roles → phases r.phase ≡ true → Pass own
      → Pass (by_role R by r.last c roles phases own)
  role_passes roles phases own caller fits passes =
      (rw caller.found refl, (rw (caller.found, caller.role) refl, (rw found refl, (rw (found, not_earlier) refl, (rw (found, fits) refl, passes)))))

  pub holder_passes : (roles : Role → Bool) (phases : Phase → Bool) (own : List (Option Refusal)) → HasEmployee R by roles → by ≡ r.holder → phases r.phase ≡ true → Pass own
      → Pass (by_holder R by r.last c roles phases own)
  holder_passes roles phases own caller holds fits passes = (
    rw caller.found refl,
    (
      rw (caller.found, caller.role) refl,
      (
        rw found refl,
        (rw (found, holds, same_itself r.holder) refl, (rw (found, not_earlier) refl, (rw (found, fits) refl, passes))),
      ),
    ),
  )
