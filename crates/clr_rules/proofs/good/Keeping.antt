-- What it takes to keep a register good: the clearance that a command is about comes to its new place, and the others stay in theirs.
use Rattle.std.proofs.Common.{◌≡◌, ℕ, Bool, true, false, List, [], Option, Some, None, length, refl, sym, ◌∙◌, ap, subst}
use Rattle.std.specs.List.{range_with_len}
use Rattle.clr_rules.proofs.Common.{AreAtPoints, Grid, section_names, Opened, StaffRow, Answer, known_of, answer_by_checks, checks, edits_of, Edit, Command, Kind, HoldKind, HeldOpen, Record}
use Rattle.clr_rules.proofs.Common.{Refusal, Id, same_id, Register, has_in_hand, position_of, record_of, steps_of, is_point_kind, has_hold, after_edits, is_closing_at, is_known_work, is_operators}
use Rattle.clr_rules.proofs.Common.{IsGood, IsGoodByPhase, IsInPlace, outlook_of, is_open, is_switch_order, numbers_of, after, one_id}
use Rattle.clr_rules.specs.Checks.{employee, has_role, is_operator}
use Rattle.clr_rules.specs.laws.Edits.{adds_nothing, KeepsNetwork, refusal_of}
use Rattle.clr_rules.proofs.edits.EditedLists.{edited_all-in_order, edited_all-network}
use Rattle.clr_rules.proofs.good.GoodToPhases.{to_phases}
use Rattle.clr_rules.proofs.edits.Passing.{Pass, all_pass}
use Rattle.clr_rules.proofs.good.PhasesToGood.{from_phases}

-- ---- one clearance changes

-- a register that is a good one but for one clearance, which is in a place all the same
pub record Changed (R S : Register) (c : Id) : Type 0 where
  pub others : (d : Id) → same_id d c ≡ false → outlook_of S d ≡ outlook_of R d
  pub own : IsInPlace R.net (outlook_of S c)
  pub operator : (r : Record) → record_of S.records c ≡ Some r → is_switch_order r ≡ is_operators R c.requester
  pub held_open : (d : Id) (kind : HoldKind) (p : List ℕ) → is_point_kind kind ≡ true → has_hold S.holds d kind p ≡ true
      → position_of S.states p ≡ Some Opened
  pub closing_free : (b : Id) (p : List ℕ) → is_closing_at S.steps b p ≡ true
      → (d : Id) (kind : HoldKind) → is_point_kind kind ≡ true → has_hold S.holds d kind p ≡ true → (d ≡ b) × (kind ≡ HeldOpen)
  pub numbered : (requester : List ℕ) → numbers_of S.records requester ≡ range_with_len 1 (length (numbers_of S.records requester))
  pub work_known : (r : Record) → record_of S.records c ≡ Some r → is_known_work (section_names (Grid.sections R.net)) r.work ≡ true
  pub steps_known : AreAtPoints R.net (steps_of S.steps c)

-- two outlooks are one, where they show the same
pub same_outlook : (R S : Register) (d : Id) → record_of S.records d ≡ record_of R.records d → steps_of S.steps d ≡ steps_of R.steps d
    → ((kind : HoldKind) (place : List ℕ) → has_hold S.holds d kind place ≡ has_hold R.holds d kind place)
    → ((p : List ℕ) → has_in_hand S.states d p ≡ has_in_hand R.states d p) → outlook_of S d ≡ outlook_of R d
same_outlook R S d records steps holds hands i = record { clearance = records i; steps = steps i; has = λ kind place. holds kind place i; hand = λ p. hands p i }

-- EDITS KEEP A REGISTER GOOD where they change one clearance so
pub keeps : (R : Register) (edits : List Edit) (c : Id) → adds_nothing edits ≡ true → IsGoodByPhase R → Changed R (after_edits edits R) c → IsGoodByPhase (after_edits edits R)
keeps R edits c adds_none good changed = record {
  network = rw same.same_net good.network;
  staff = rw same.same_staff good.staff;
  in_place = λ d. rw same.same_net (placed d (same_id d c) refl);
  operators = λ d r found unclosed. at_operator d r found unclosed (same_id d c) refl;
  held_open = changed.held_open;
  closing_free = changed.closing_free;
  numbered = changed.numbered;
  work_known = λ d r found unclosed. rw same.same_net (work_at d r found unclosed (same_id d c) refl);
  placed = rw same.same_net good.placed;
  points_known = record {
    states = same.same_points ∙ rw same.same_net good.points_known.states;
    steps = λ d r found unclosed. rw same.same_net (steps_at d r found unclosed (same_id d c) refl);
  };
  in_order = edited_all-in_order R edits good.in_order;
}
  where
    same : KeepsNetwork R (after_edits edits R)
    same = edited_all-network R edits adds_none good.in_order

    placed : (d : Id) (b : Bool) → same_id d c ≡ b → IsInPlace R.net (outlook_of (after_edits edits R) d)
    placed d true is = rw (one_id d c is) changed.own
    placed d false differs = rw (changed.others d differs) (good.in_place d)

    -- the staff is the same
    by_staff : (name : List ℕ) → is_operators (after_edits edits R) name ≡ is_operators R name
    by_staff name = ap (λ (staff : List StaffRow). has_role is_operator (employee staff name)) same.same_staff

    before : (d : Id) (r : Record) → record_of (Register.records (after_edits edits R)) d ≡ Some r → same_id d c ≡ false → record_of R.records d ≡ Some r
    before d r found differs = sym (ap (λ v. v.clearance) (changed.others d differs)) ∙ found

    at_operator : (d : Id) (r : Record) → record_of (Register.records (after_edits edits R)) d ≡ Some r → is_open r.phase ≡ true → (b : Bool) → same_id d c ≡ b
        → is_switch_order r ≡ is_operators (after_edits edits R) d.requester
    at_operator d r found unclosed true is = rw (one_id d c is) (changed.operator r (rw (one_id d c is) at found) ∙ sym (by_staff c.requester))
    at_operator d r found unclosed false differs = good.operators d r (before d r found differs) unclosed ∙ sym (by_staff d.requester)

    work_at : (d : Id) (r : Record) → record_of (Register.records (after_edits edits R)) d ≡ Some r → is_open r.phase ≡ true → (b : Bool) → same_id d c ≡ b
        → is_known_work (section_names (Grid.sections R.net)) r.work ≡ true
    work_at d r found unclosed true is = changed.work_known r (rw (one_id d c is) at found)
    work_at d r found unclosed false differs = good.work_known d r (before d r found differs) unclosed

    steps_at : (d : Id) (r : Record) → record_of (Register.records (after_edits edits R)) d ≡ Some r → is_open r.phase ≡ true → (b : Bool) → same_id d c ≡ b
        → AreAtPoints R.net (steps_of (Register.steps (after_edits edits R)) d)
    steps_at d r found unclosed true is = rw (one_id d c is) changed.steps_known
    steps_at d r found unclosed false differs =
        subst (AreAtPoints R.net) (sym (ap (λ v. v.steps) (changed.others d differs))) (good.points_known.steps d r (before d r found differs) unclosed)

-- ---- commands

abbrev pub asked : List ℕ → ℕ → Kind → Command
asked by at kind = record { caller = by; moment = at; kind = kind }

-- WHAT KEEPS A GOOD REGISTER GOOD: whoever asks for it, whenever, the register that was good is good after the answer
abbrev pub KeepsGood : Kind → Type 0
KeepsGood kind = (R : Register) (by : List ℕ) (at : ℕ) → IsGood R → IsGood (after R (asked by at kind))

-- the edits of a command that no check refuses keep a register good
abbrev pub EditsKeepGood : Kind → Type 0
EditsKeepGood kind = (R : Register) (by : List ℕ) (at : ℕ) → IsGoodByPhase R → Pass (checks (known_of R (asked by at kind)) R by at kind)
    → IsGoodByPhase (after_edits (edits_of (known_of R (asked by at kind)).greatest R by at kind) R)

pub no_edits : (R : Register) → IsGoodByPhase R → IsGoodByPhase (after_edits [] R)
unfolding after_edits
no_edits R h = h

-- and then so do commands, since one that is refused has no edits
pub commands_keep : (kind : Kind) → EditsKeepGood kind → KeepsGood kind
commands_keep kind edits_keep R by at good = from_phases (after R (asked by at kind)) (settle (refusal_of R (asked by at kind)) refl)
  where
    settle : (found : Option Refusal) → refusal_of R (asked by at kind) ≡ found
        → IsGoodByPhase (after_edits (Answer.edits (answer_by_checks (known_of R (asked by at kind)) R (asked by at kind) found)) R)
    settle None passed = edits_keep R by at (to_phases R good) (all_pass (checks (known_of R (asked by at kind)) R by at kind) passed)
    settle (Some refusal) is = no_edits R (to_phases R good)
