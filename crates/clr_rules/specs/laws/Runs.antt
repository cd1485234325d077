-- Runs as laws: what commands may add, one reply a command, and a run that goes on where another
-- ended.
use Rattle.std.specs.Prelude.{◌≡◌, true, false, not, List, ◌++◌, length, map, Contains, ◌⊎◌}
use Rattle.clr_rules.specs.Prelude.{list_all, StaffRow, Grid, IsNetwork, point_names, PointRow}
use Rattle.clr_rules.specs.Prelude.{SectionRow, Command, Register, state_key}
use Rattle.clr_staff.specs.Staff.{IsStaff}
use Rattle.clr_rules.specs.Answer.{Answer, answer}
use Rattle.clr_rules.specs.Command.{is_jumper}
use Rattle.clr_rules.specs.laws.Edits.{adds_nothing}
use Rattle.clr_rules.specs.Good.{ListsAreInOrder}
use Rattle.clr_rules.specs.Register.{opening, unplaced_net}
use Rattle.clr_rules.specs.Run.{IsReached, after_all, replies}

-- in a reached register each list is in key order, one row a key
abbrev pub ReachedListsAreInOrder : Type 0
ReachedListsAreInOrder = (R : Register) → IsReached R → ListsAreInOrder R

-- a network has the rows of another as they were; each other section of it has no source, and each
-- other point is a jumper
pub record HasGrown (g h : Grid) : Type 0 where
  pub sections_stay : (row : SectionRow) → Contains g.sections row → Contains h.sections row
  pub points_stay : (p : PointRow) → Contains g.points p → Contains h.points p
  pub new_sections : (row : SectionRow) → Contains h.sections row
      → Contains g.sections row ⊎ (row.source ≡ false)
  pub new_points : (p : PointRow) → Contains h.points p
      → Contains g.points p ⊎ (p.jumper ≡ true)

-- a register has the staff of the opening one, the network of the opening one and what was added to
-- it, and a state for each point, and for no other name
pub record OnlyAdds (g : Grid) (staff : List StaffRow) (R : Register) : Type 0 where
  pub same_staff : R.staff ≡ staff
  pub network : IsNetwork R.net
  pub has_grown : HasGrown (unplaced_net g) R.net
  pub same_points : map state_key R.states ≡ point_names (Grid.points R.net)

-- no command changes the staff, or a row of the network
abbrev pub RunsOnlyAdd : Type 0
RunsOnlyAdd = (g : Grid) (staff : List StaffRow) → IsNetwork g → (commands : List Command)
    → OnlyAdds g staff (after_all (opening g staff) commands)

-- no command but a jumper adds to the network,
abbrev pub OnlyJumpersAdd : Type 0
OnlyJumpersAdd = (R : Register) (q : Command) → is_jumper q.kind ≡ false
    → adds_nothing (Answer.edits (answer R q)) ≡ true

-- so a run without jumpers keeps it
abbrev pub RunsWithoutJumpersKeepTheNetwork : Type 0
RunsWithoutJumpersKeepTheNetwork = (R : Register) (commands : List Command)
    → list_all (λ q. not (is_jumper q.kind)) commands ≡ true
    → Register.net (after_all R commands) ≡ R.net

-- each command has one reply
abbrev pub CommandsAreReplied : Type 0
CommandsAreReplied =
    (R : Register) (commands : List Command) → length (replies R commands) ≡ length commands

-- a run goes on where another ended
pub record GoesOn (R : Register) (earlier later : List Command) : Type 0 where
  pub register : after_all R (earlier ++ later) ≡ after_all (after_all R earlier) later
  pub replied : replies R (earlier ++ later)
      ≡ replies R earlier ++ replies (after_all R earlier) later

abbrev pub RunsGoOn : Type 0
RunsGoOn = (R : Register) (earlier later : List Command) → GoesOn R earlier later

-- the opening register of a network and a staff is reached, by a run of no commands
abbrev pub OpeningRegistersAreReached : Type 0
OpeningRegistersAreReached =
    (g : Grid) (staff : List StaffRow) → IsNetwork g → IsStaff staff → IsReached (opening g staff)

-- what a run makes of a reached register is reached
abbrev pub ReachedGoOn : Type 0
ReachedGoOn =
    (R : Register) → IsReached R → (commands : List Command) → IsReached (after_all R commands)
