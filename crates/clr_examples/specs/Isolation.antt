-- EXAMPLES OF ISOLATION: JONES/1 lives its whole life in two registers. One has the worked network,
-- and OPS switches S4 there while JONES has the clearance; two has little more than L2, and nothing
-- else is done there. The fence of JONES/1 is L2 in both.
use Rattle.std.specs.Prelude.{◌≡◌, ℕ, Bool, true, false, List, [], ◌∷◌, ◌++◌, length, map, filter}
use Rattle.std.specs.Prelude.{codes, Some, None, is_some, ◌==◌, refl}
use Rattle.clr_staff.specs.declared.employee.Role.TheVariants.{Operator, Charge, Field}
use Rattle.clr_rules.specs.Prelude.{StaffRow, Grid, same_name, has_name, Position, Task, Waiting}
use Rattle.clr_rules.specs.Prelude.{steps_of, has_hold, PointRow, list_all, list_any}
use Rattle.clr_net.specs.declared.point.Position.TheVariants.{Opened, Closed as Shut}
use Rattle.clr_rules.specs.Agreement.{Agree, part_near}
use Rattle.clr_rules.specs.Register.{Register, opening}
use Rattle.clr_rules.specs.Run.{after_all}
use Rattle.clr_rules.specs.Good.{is_operators}
use Rattle.clr_rules.specs.Shown.{Item, covers, marks, own, own_answers, items_shown}
use Rattle.clr_examples.specs.Worked.{BOSS, DALE, JONES, KIM, L1, L2, L3, OPS, REED, S2, S3, S4}
use Rattle.clr_examples.specs.Worked.{Saying, T1, does, from_moment, isolating_l2_and_l3, jones_1}
use Rattle.clr_examples.specs.Worked.{jones_works_and_releases, kim_1, kim_asks, l2_asked}
use Rattle.clr_examples.specs.Worked.{l2_granted, l2_is_restored, ops_1, said_at, says, step_runs}
use Rattle.clr_examples.specs.Worked.{worked_opening, worked_staff, point_row, s2_row, s3_row}
use Rattle.clr_examples.specs.Worked.{the_rules}
use Rattle.clr_examples.specs.WorkedRows.{done_step, jones_record, l2_steps_done}
use Rattle.clr_rules.specs.declared.change.Edit.TheVariants.{SetPosition, SetHand}
use Rattle.clr_rules.specs.declared.command.Command.{Command}
use Rattle.clr_rules.specs.declared.hold_kind.HoldKind.TheVariants.{Tag}
use Rattle.clr_rules.specs.declared.phase.Phase.TheVariants.{Closed}
use Rattle.clr_rules.specs.declared.step_row.StepRow.{StepRow}
use Rattle.clr_rules.specs.declared.command.Kind.TheVariants.{Request, Order, Switch}
use Rattle.clr_rules.specs.Holds.{holds_of}
use Rattle.clr_rules.specs.Records.{greatest_number}
use Rattle.clr_rules.specs.Live.{is_shut}
use Rattle.clr_rules.specs.declared.point_state.PointState.{PointState}
use mathlib.Core.Path.{ap, sym, ◌∙◌}
use mathlib.Core.Bool.{true≢false}
use Rattle.clr_order.specs.declared.action.Action.TheVariants as actions

-- THE TWO REGISTERS

-- a network with L2, the points that lead to it, and the sections that they lead from: L1 is a
-- source here
abbrev pub two_net : Bool → Position → Grid
two_net s3_is_lockable s2_stands = record {
  sections =
      record { name = L1; source = true } ∷ record { name = L2; source = false }
      ∷ record { name = L3; source = false } ∷ [];
  points = s2_row s2_stands ∷ point_row S3 L2 L3 s3_is_lockable false Shut ∷ [];
}

abbrev pub register_one : Register
register_one = worked_opening

abbrev pub register_two : Register
register_two = opening (two_net true Shut) worked_staff

abbrev pub in_l2 : List ℕ → Bool
in_l2 = has_name (L2 ∷ [])

-- THE TWO LISTS

-- in register two, from moment 100 on: the 49 commands about JONES/1
abbrev pub list_two : List Command
list_two = from_moment 100 (l2_granted ++ jones_works_and_releases ++ l2_is_restored)

-- OPS's switch order at a point, and its step
abbrev pub ops_switches : List ℕ → List ℕ → List Saying
ops_switches point text = says OPS (Switch (does actions.Open point ∷ [])) ∷ step_runs ops_1 1 text

-- in register one the same, at the same moments; and after the grant these four commands of OPS
abbrev pub list_one : List ℕ → List ℕ → List Command
list_one point text =
    from_moment 100 l2_granted ++ from_moment 120 (ops_switches point text)
    ++ from_moment 121 (jones_works_and_releases ++ l2_is_restored)

abbrev pub with_s4_switched : List Command
with_s4_switched = list_one S4 (codes "OPEN S4")

abbrev pub with_s3_switched : List Command
with_s3_switched = list_one S3 (codes "OPEN S3")

-- WHAT ISOLATION ASKS

-- both are reached (`proofs/ReachedExamples`), and JONES is no operator
pub no_operator : is_operators register_one JONES ≡ false
unfolding the_rules
no_operator = refl

-- the registers agree near JONES/1 on L2, although one of them has five sections and the other
-- three
pub agree : Agree jones_1 in_l2 register_one register_two
unfolding the_rules
agree = record { near = refl; own_holds = refl; greatest = refl }

-- what isolation asks of two registers and two lists: the registers agree, the set covers the run,
-- and the lists show the same
pub premises :
    -- L2 covers the run in register one
    (covers jones_1 in_l2 register_one with_s4_switched ≡ true)
    -- both lists show JONES/1 the same: its own 49 commands, and no mark
    × (items_shown jones_1 in_l2 register_one with_s4_switched
    ≡ items_shown jones_1 in_l2 register_two list_two)
    × (length (items_shown jones_1 in_l2 register_one with_s4_switched) ≡ 49)
    -- the first of them is JONES's request, with the row of the section that it asks for
    × (items_shown jones_1 in_l2 register_one (from_moment 100 l2_asked)
    ≡ own (said_at 100 (says JONES (Request L2))) (Some (record { name = L2; source = false })) ∷ [])
unfolding the_rules
premises = (refl, refl, refl, refl)

-- AND WHAT IT GIVES

-- what is near JONES/1 in the end: nothing is held, S2 and S3 are closed, and all twelve steps
-- are done
abbrev pub near_in_the_end : Register
near_in_the_end = record {
  net = record {
    sections = record { name = L2; source = false } ∷ [];
    points = s2_row Opened ∷ s3_row Opened ∷ [];
  };
  staff = worked_staff;
  states = record { point = S2; position = Shut; hand = None }
      ∷ record { point = S3; position = Shut; hand = None } ∷ [];
  records = jones_record Closed 148 ∷ [];
  steps = l2_steps_done ++ done_step jones_1 2 1 (does actions.Untag S2)
      ∷ done_step jones_1 2 2 (does actions.Unblock S2)
      ∷ done_step jones_1 2 3 (does actions.Close S2)
      ∷ done_step jones_1 2 4 (does actions.Untag S3)
      ∷ done_step jones_1 2 5 (does actions.Unblock S3)
      ∷ done_step jones_1 2 6 (does actions.Close S3) ∷ [];
  holds = [];
}

-- what it gives: the answers are the same, and the registers agree again
pub outcome :
    -- JONES/1 has the same replies and the same edits
    (own_answers jones_1 register_one with_s4_switched ≡ own_answers jones_1 register_two list_two)
    × (part_near (after_all register_one with_s4_switched) jones_1 in_l2 ≡ near_in_the_end)
    × (part_near (after_all register_two list_two) jones_1 in_l2 ≡ near_in_the_end)
    -- JONES/1 holds nothing in either, and is JONES's one clearance in both
    × (holds_of (Register.holds (after_all register_one with_s4_switched)) jones_1 ≡ [])
    × (holds_of (Register.holds (after_all register_two list_two)) jones_1 ≡ [])
    × (greatest_number (Register.records (after_all register_one with_s4_switched)) JONES ≡ 1)
    × (greatest_number (Register.records (after_all register_two list_two)) JONES ≡ 1)
unfolding the_rules
outcome = (refl, refl, refl, refl, refl, refl, refl)

-- and so the registers agree again
pub still_agree :
    Agree jones_1 in_l2 (after_all register_one with_s4_switched) (after_all register_two list_two)
unfolding the_rules
still_agree = record {
  near = outcome.1 ∙ sym outcome.2;
  own_holds = outcome.3 ∙ sym outcome.4;
  greatest = outcome.5 ∙ sym outcome.6;
}

-- WHERE THEY DO NOT AGREE: a test of the near part, or of the greatest number, distinguishes them

-- S3, which has an end in L2, cannot be locked in the second register
all_lockable : Register → Bool
all_lockable R = list_all (λ (p : PointRow). p.lockable) (Grid.points R.net)

pub another_point : Agree jones_1 in_l2 register_one (opening (two_net false Shut) worked_staff) → ⊥
unfolding the_rules all_lockable
another_point agree = true≢false (ap all_lockable agree.near)

-- S2 is open there
all_closed : Register → Bool
all_closed R = list_all (λ (state : PointState). is_shut (Some state.position)) R.states

pub another_position :
    Agree jones_1 in_l2 register_one (opening (two_net true Opened) worked_staff) → ⊥
unfolding the_rules all_closed
another_position agree = true≢false (ap all_closed agree.near)

-- JONES has no supervisor there
abbrev pub another_staff : List StaffRow
another_staff =
    record { name = BOSS; role = Charge; supervisor = None }
    ∷ record { name = DALE; role = Field; supervisor = None }
    ∷ record { name = JONES; role = Charge; supervisor = None }
    ∷ record { name = KIM; role = Charge; supervisor = None }
    ∷ record { name = OPS; role = Operator; supervisor = None }
    ∷ record { name = REED; role = Field; supervisor = None }
    ∷ []

has_supervisor : Register → Bool
has_supervisor R = list_any (λ (row : StaffRow). is_some row.supervisor) R.staff

pub another_supervisor :
    Agree jones_1 in_l2 register_one (opening (two_net true Shut) another_staff) → ⊥
unfolding the_rules has_supervisor
another_supervisor agree = true≢false (ap has_supervisor agree.near)

-- JONES has asked for a clearance there already
is_none : ℕ → Bool
is_none n = n == 0

pub another_number :
    Agree jones_1 in_l2 register_one (after_all register_two (from_moment 100 l2_asked)) → ⊥
unfolding the_rules is_none
another_number agree = true≢false (ap is_none agree.greatest)

-- A NEIGHBOUR'S ORDER: after the grant KIM/1 is asked for, on L3, and ordered at S4, T1 and S3; its
-- six steps at S4 and T1 run, and no step at S3 is given out

-- the steps of KIM/1 at S3
abbrev pub steps_at_s3 : List StepRow → List StepRow
steps_at_s3 steps = filter (λ row. same_name S3 row.step.point) (steps_of steps kim_1)

abbrev pub s4_and_t1_first : List Task
s4_and_t1_first =
    does actions.Open S4 ∷ does actions.Block S4 ∷ does actions.Control S4 ∷ does actions.Tag S4
    ∷ does actions.Open T1 ∷ does actions.Tag T1
    ∷ does actions.Open S3 ∷ does actions.Block S3 ∷ does actions.Tag S3 ∷ []

abbrev pub kim_switches_outside : List Saying
kim_switches_outside =
    kim_asks ++ says OPS (Order kim_1 (S4 ∷ T1 ∷ S3 ∷ []) s4_and_t1_first)
    ∷ step_runs kim_1 1 (codes "OPEN S4") ++ step_runs kim_1 2 (codes "BLOCK S4")
    ++ step_runs kim_1 3 (codes "CONTROL S4") ++ step_runs kim_1 4 (codes "TAG S4")
    ++ step_runs kim_1 5 (codes "OPEN T1") ++ step_runs kim_1 6 (codes "TAG T1")

abbrev pub with_kim : List Command
with_kim =
    from_moment 100 l2_granted ++ from_moment 300 kim_switches_outside
    ++ from_moment 121 (jones_works_and_releases ++ l2_is_restored)

-- a neighbour's order, whose steps at other points run: the set covers it, the same is shown, and
-- the answers are the same
pub neighbours_order :
    -- L2 covers this run too, it shows JONES/1 the same, and gives JONES/1 the same answers
    (covers jones_1 in_l2 register_one with_kim ≡ true)
    × (items_shown jones_1 in_l2 register_one with_kim
    ≡ items_shown jones_1 in_l2 register_two list_two)
    × (own_answers jones_1 register_one with_kim ≡ own_answers jones_1 register_two list_two)
    -- though KIM/1's sixth step is done, and the seventh waits
    × (has_hold (Register.holds (after_all register_one with_kim)) kim_1 Tag T1 ≡ true)
    × (map (λ (row : StepRow). row.step.state)
    (steps_at_s3 (Register.steps (after_all register_one with_kim)))
    ≡ Waiting ∷ Waiting ∷ Waiting ∷ [])
unfolding the_rules
neighbours_order = (refl, refl, refl, refl, refl)

-- WHERE THE SET DOES NOT COVER

-- an order at S2, S4 and T1 makes a fence of L2 and L3
abbrev pub wide_list : List Command
wide_list =
    from_moment 100 (l2_asked ++ says OPS (Order jones_1 (S2 ∷ S4 ∷ T1 ∷ []) isolating_l2_and_l3)
    ∷ [])

-- a set that does not cover a run, and one that does
pub coverage :
    (covers jones_1 in_l2 register_one wide_list ≡ false)
    × (covers jones_1 (has_name (L2 ∷ L3 ∷ [])) register_one wide_list ≡ true)
unfolding the_rules
coverage = (refl, refl)

-- WHERE THE LISTS DO NOT SHOW THE SAME

-- OPS switches S3 in place of S4, and S3 has an end in L2: two marks beside the 49 own commands
is_seen : List Item → Bool
is_seen items = length items == 51

pub another_shown :
    items_shown jones_1 in_l2 register_one with_s3_switched
    ≡ items_shown jones_1 in_l2 register_two list_two → ⊥
unfolding the_rules is_seen
another_shown same = true≢false (ap is_seen same)

-- a switch order that is seen, and one that is not
pub switches_seen :
    -- the marks of that switch order: S3 is taken in hand; then it is open, and in nobody's hand
    (items_shown jones_1 in_l2 register_one (from_moment 100 (ops_switches S3 (codes "OPEN S3"))) ≡
    marks (SetHand S3 (Some ops_1)) [] ∷ marks (SetPosition S3 Opened) (SetHand S3 None ∷ []) ∷ [])
    -- of S4 nothing is seen
    × (items_shown jones_1 in_l2 register_one (from_moment 100 (ops_switches S4 (codes "OPEN S4")))
    ≡ [])
unfolding the_rules
switches_seen = (refl, refl)
