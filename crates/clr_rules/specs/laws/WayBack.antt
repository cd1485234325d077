-- The way back as a law: what its commands come to, and what they leave alone.
use Rattle.std.specs.Prelude.{◌≡◌, ℕ, Bool, true, false, List, [], ◌∷◌, None, Some, ◌⊎◌}
use Rattle.std.specs.List.{list_any}
use Rattle.clr_net.specs.Names.{has_name}
use Rattle.clr_order.specs.declared.step.StepState.TheVariants.{Waiting}
use Rattle.clr_rules.specs.Answer.{Answer, answer}
use Rattle.clr_rules.specs.Changes.{step_moved}
use Rattle.clr_rules.specs.Checks.{is_field}
use Rattle.clr_rules.specs.Good.{IsGood}
use Rattle.clr_rules.specs.Prelude.{Edit, SetPosition, Command, HoldKind, Record, Reply, StepRow, Id}
use Rattle.clr_rules.specs.Prelude.{same_id, Register, position_of, record_of, is_active, points_of}
use Rattle.clr_rules.specs.Prelude.{steps_of, has_hold}
use Rattle.clr_rules.specs.Records.{is_closed}
use Rattle.clr_rules.specs.Run.{after, after_all}
use Rattle.clr_rules.specs.Staffed.{IsStaffed, has_some_role}
use Rattle.clr_rules.specs.Steps.{some_active}
use Rattle.clr_rules.specs.WayBack.{way_back}
use Rattle.clr_rules.specs.declared.reply.Reply.TheVariants.{Accepted}

abbrev pub is_accepted : Reply → Bool
is_accepted (Accepted card) = true
is_accepted _ = false

-- whether an edit opens or closes a point
abbrev pub sets_position : Edit → Bool
sets_position (SetPosition p position) = true
sets_position _ = false

-- A MOVE: the command is accepted, and opens and closes no point
pub record IsMove (R : Register) (q : Command) : Type 0 where
  pub accepted : is_accepted (Answer.reply (answer R q)) ≡ true
  pub moves_no_point : list_any sets_position (Answer.edits (answer R q)) ≡ false

-- each of the commands is a move, one after the other
unfoldable pub AreMoves : Register → List Command → Type 0
AreMoves R [] = Unit {0}
AreMoves R (q ∷ commands) = IsMove R q × AreMoves (after R q) commands

-- a step is as it was, or it was given out at one of these points, and waits again
abbrev pub IsBack : (List ℕ → Bool) → StepRow → StepRow → Type 0
IsBack among row now = (now ≡ row)
    ⊎ ((is_active row.step.state ≡ true) × (among row.step.point ≡ true)
    × (now ≡ step_moved Waiting None row))

unfoldable pub AllBack : (List ℕ → Bool) → List StepRow → List StepRow → Type 0
AllBack among [] [] = Unit {0}
AllBack among (row ∷ rows) (now ∷ nows) = IsBack among row now × AllBack among rows nows
AllBack among _ _ = ⊥

-- of another clearance the record and the holds stay, and the steps but for those that are given
-- out at these points, which wait again
pub record StaysBut (among : List ℕ → Bool) (R S : Register) (d : Id) : Type 0 where
  pub same_record : record_of S.records d ≡ record_of R.records d
  pub same_holds : (kind : HoldKind) (place : List ℕ)
      → has_hold S.holds d kind place ≡ has_hold R.holds d kind place
  pub steps : AllBack among (steps_of R.steps d) (steps_of S.steps d)

-- the points of a clearance: those of its steps
abbrev pub is_point_of : Register → Id → List ℕ → Bool
is_point_of R c = has_name (points_of (steps_of R.steps c))

-- COMMANDS CLOSE A RECORD ALONE: all are accepted, one after the other, none opens or closes a
-- point, and the record is Closed after them; every point is where it was, and every other record
-- stays as it is, but for steps that are given out at points of this one
pub record ClosesAlone (R : Register) (c : Id) (commands : List Command) : Type 0 where
  pub moves : AreMoves R commands
  pub now : Record
  pub recorded : record_of (Register.records (after_all R commands)) c ≡ Some now
  pub closed : is_closed now.phase ≡ true
  pub positions : (p : List ℕ)
      → position_of (Register.states (after_all R commands)) p ≡ position_of R.states p
  pub others : (d : Id) → same_id d c ≡ false
      → StaysBut (is_point_of R c) R (after_all R commands) d

-- THERE IS A WAY BACK from every good and staffed register, for every record: it closes the record
-- alone, where the staff has a field employee, or no step of the record is given out
abbrev pub ThereIsAWayBack : Type 0
ThereIsAWayBack =
    (R : Register) → IsGood R → IsStaffed R → (c : Id) (r : Record) → record_of R.records c ≡ Some r
    → (has_some_role R.staff is_field ≡ true) ⊎ (some_active (steps_of R.steps c) ≡ false)
    → ClosesAlone R c (way_back R c)
