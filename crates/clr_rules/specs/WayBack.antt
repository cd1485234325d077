-- THE WAY BACK: commands by which the staff closes a record that is not Closed, without closing or
-- opening a point. Each is asked at the last moment of the record that it is about.
use Rattle.std.specs.Prelude.{ℕ, Bool, true, false, not, ◌&&◌, if◌then◌else◌, List, [], ◌∷◌}
use Rattle.std.specs.Prelude.{◌+◌, ◌*◌, ◌++◌, length, map, find, Option, None, Some, zero, suc}
use Rattle.clr_net.specs.Name.{same_name}
use Rattle.clr_order.specs.Needed.{undoing}
use Rattle.clr_order.specs.Step.{Task, task}
use Rattle.clr_order.specs.Texts.{step_text}
use Rattle.clr_order.specs.declared.action.Action.{Action}
use Rattle.clr_order.specs.declared.action.Action.TheVariants as actions
use Rattle.clr_order.specs.declared.held.Held.{Held}
use Rattle.clr_staff.specs.declared.employee.Role.{Role}
use Rattle.clr_staff.specs.declared.employee.StaffRow.{StaffRow}
use Rattle.clr_rules.specs.Checks.{is_field, is_operator}
use Rattle.clr_rules.specs.Holds.{held_among}
use Rattle.clr_rules.specs.Prelude.{Command, Kind, Ground, Crew, Phase, Requested, Ordered}
use Rattle.clr_rules.specs.Prelude.{Granted, Released, Restoring, Switching, Closed, Record}
use Rattle.clr_rules.specs.Prelude.{StepRow, Id, same_id, Register, hand_of, record_of}
use Rattle.clr_rules.specs.Prelude.{is_active, is_done, points_of, steps_in, steps_of}
use Rattle.clr_rules.specs.Prelude.{places_of}
use Rattle.clr_rules.specs.Run.{after_all}
use Rattle.clr_rules.specs.Staffed.{first_of_role}
use Rattle.clr_rules.specs.Steps.{is_close}
use Rattle.clr_rules.specs.declared.command.Kind.TheVariants as kinds

abbrev pub ask : Record → List ℕ → Kind → Command
ask r by kind = record { caller = by; moment = r.last; kind = kind }

abbrev pub name_in : Option StaffRow → List ℕ
name_in None = []
name_in (Some row) = row.name

-- the first employee whose role fits; of nobody the empty name, which no employee has
abbrev pub one_of_role : Register → (Role → Bool) → List ℕ
one_of_role R fits = name_in (first_of_role R.staff fits)

-- A STEP THAT IS GIVEN OUT COMES BACK: a field employee repeats it, and reports it done or not
abbrev pub reported_back : Register → Record → StepRow → Bool → List Command
reported_back R r row done =
    ask r (one_of_role R is_field) (kinds.Repeat r.id row.ordinal (step_text (task row.step)))
    ∷ ask r (one_of_role R is_field) (kinds.Report r.id row.ordinal done) ∷ []

-- where a record has a step, which is given out, it is reported not done
abbrev pub reported_undone : Register → Option Record → Option StepRow → List Command
reported_undone R None found = []
reported_undone R (Some r) None = []
reported_undone R (Some r) (Some row) = reported_back R r row false

-- a record without a step that is given out is cancelled by its holder
abbrev pub cancelled : Register → Record → Option StepRow → List Command
cancelled R r None = ask r r.holder (kinds.Cancel r.id) ∷ []
cancelled R r (Some row) = reported_back R r row false

-- the holder signs off the crews, takes the grounds, and releases the clearance
abbrev pub given_up : Record → List (List ℕ) → List (List ℕ) → List Command
given_up r (crew ∷ crews) grounds = ask r r.holder (kinds.SignOff r.id crew) ∷ []
given_up r [] (section ∷ grounds) = ask r r.holder (kinds.Unground r.id section) ∷ []
given_up r [] [] = ask r r.holder (kinds.Release r.id true true) ∷ []

-- the steps that undo what is held at points, and leave each of them open
abbrev pub at_held_point : Held → List Action → List Task
at_held_point h actions = map (λ action. record { action = action; point = h.point }) actions

unfoldable pub undoing_steps : List Held → List Task
undoing_steps [] = []
undoing_steps (h ∷ held) = at_held_point h (undoing h actions.Leave) ++ undoing_steps held

abbrev pub restored : Register → Record → List Command
restored R r =
    ask r (one_of_role R is_operator) (kinds.Restore r.id
    (undoing_steps (held_among R.holds r.id (points_of (steps_in R.steps r.id 1))))) ∷ []

-- the step of a clearance at a point that is given out
abbrev pub given_out_at : List StepRow → Id → List ℕ → Option StepRow
given_out_at steps d p =
    find (λ row. is_active row.step.state && same_name p row.step.point) (steps_of steps d)

-- a step is given out, once no other clearance has its point in hand
abbrev pub given_out : Register → Record → StepRow → Option Id → List Command
given_out R r row None = ask r (one_of_role R is_operator) (kinds.Instruct r.id row.ordinal) ∷ []
given_out R r row (Some d) =
    if same_id r.id d
    then ask r (one_of_role R is_operator) (kinds.Instruct r.id row.ordinal) ∷ []
    else reported_undone R (record_of R.records d) (given_out_at R.steps d row.step.point)

-- a step that waits: a Close becomes a Leave first
abbrev pub begun : Register → Record → StepRow → Bool → List Command
begun R r row true = ask r (one_of_role R is_operator) (kinds.Amend r.id row.ordinal) ∷ []
begun R r row false = given_out R r row (hand_of R.states row.step.point)

-- the first step that is left of a restoring order: it is done, but a Close never is
abbrev pub stepped : Register → Record → Option StepRow → List Command
stepped R r None = []
stepped R r (Some row) =
    if is_active row.step.state then reported_back R r row (not (is_close row.step.action))
    else begun R r row (is_close row.step.action)

-- the next commands, by the phase of the record
abbrev pub moves_in : Register → Record → Phase → List Command
moves_in R r Requested =
    cancelled R r (find (λ row. is_active row.step.state) (steps_of R.steps r.id))
moves_in R r Ordered =
    cancelled R r (find (λ row. is_active row.step.state) (steps_of R.steps r.id))
moves_in R r Switching =
    cancelled R r (find (λ row. is_active row.step.state) (steps_of R.steps r.id))
moves_in R r Granted =
    given_up r (places_of R.holds r.id Crew) (places_of R.holds r.id Ground)
moves_in R r Released = restored R r
moves_in R r Restoring =
    stepped R r (find (λ row. not (is_done row.step.state)) (steps_in R.steps r.id 2))
moves_in R r Closed = []

abbrev pub moves_of : Register → Option Record → List Command
moves_of R None = []
moves_of R (Some r) = moves_in R r r.phase

abbrev pub next_moves : Register → Id → List Command
next_moves R c = moves_of R (record_of R.records c)

-- the moves of n turns, each from the register that the earlier ones left
unfoldable pub turns : ℕ → Register → Id → List Command
turns zero R c = []
turns (suc n) R c = next_moves R c ++ turns n (after_all R (next_moves R c)) c

-- turns that are enough: one for each hold; five for each step of the second round, and for each of
-- the 256 that a restoring order still to come may have; and five before that order
abbrev pub enough_turns : Register → Id → ℕ
enough_turns R c = 5 * (257 + length (steps_in R.steps c 2)) + length R.holds

-- THE WAY BACK of a record
abbrev pub way_back : Register → Id → List Command
way_back R c = turns (enough_turns R c) R c
