-- What leaves a clearance alone.
use Rattle.std.specs.Prelude.{◌≡◌, ℕ, Bool, true, false, not, ◌&&◌, List, Some}
use Rattle.clr_rules.specs.Prelude.{list_all, Position, Edit, SetPosition, SetHand, PutHold}
use Rattle.clr_rules.specs.Prelude.{TakeHold, PutRecord, PutStep, AddSection, AddPoint, HeldOpen}
use Rattle.clr_rules.specs.Prelude.{Id, same_id, Register, has_in_hand, position_of, record_of}
use Rattle.clr_rules.specs.Prelude.{steps_of, has_hold, holds_of, after_edits}
use Rattle.clr_net.specs.declared.point.Position.TheVariants.{Opened, Closed as Shut}
use Rattle.clr_rules.specs.Good.{ListsAreInOrder}
use Rattle.clr_rules.specs.States.{is_hand}

-- FRAME: the record, the steps and the holds of a clearance are the same in both registers; what it
-- has in hand in the first it has in hand in the second; and a point that it holds open, if it is
-- open in the first, is open in the second
pub record Frame (c : Id) (R S : Register) : Type 0 where
  pub same_record : record_of S.records c ≡ record_of R.records c
  pub same_steps : steps_of S.steps c ≡ steps_of R.steps c
  pub same_holds : holds_of S.holds c ≡ holds_of R.holds c
  pub hands_stay : (p : List ℕ) → has_in_hand R.states c p ≡ true → has_in_hand S.states c p ≡ true
  pub closes_nothing : (p : List ℕ) → has_hold R.holds c HeldOpen p ≡ true
      → position_of R.states p ≡ Some Opened → position_of S.states p ≡ Some Opened

abbrev pub is_shut : Position → Bool
is_shut Shut = true
is_shut Opened = false

abbrev pub both_or_neither : Bool → Bool → Bool
both_or_neither true b = b
both_or_neither false b = not b

-- WHETHER AN EDIT SPARES A CLEARANCE in a register: it is of another's record, step or hold, takes
-- no point out of the clearance's hand and puts none into it, which an added point would be, and
-- closes no point that it holds open
abbrev pub spares : Id → Register → Edit → Bool
spares c R (SetPosition p position) = not (is_shut position && has_hold R.holds c HeldOpen p)
spares c R (SetHand p hand) = both_or_neither (has_in_hand R.states c p) (is_hand c hand)
spares c R (PutHold h) = not (same_id c h.id)
spares c R (TakeHold h) = not (same_id c h.id)
spares c R (PutRecord r) = not (same_id c r.id)
spares c R (PutStep row) = not (same_id c row.id)
spares c R (AddSection row) = true
spares c R (AddPoint p) = not (has_in_hand R.states c p.name)

abbrev pub all_spare : Id → Register → List Edit → Bool
all_spare c R edits = list_all (spares c R) edits

-- EDITS THAT SPARE A CLEARANCE leave it alone: each is judged by the register before the first
abbrev pub SparingEditsLeaveAlone : Type 0
SparingEditsLeaveAlone =
    (c : Id) (R : Register) (edits : List Edit) → ListsAreInOrder R → all_spare c R edits ≡ true
    → Frame c R (after_edits edits R)
