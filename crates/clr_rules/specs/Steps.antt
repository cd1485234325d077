-- The steps of a clearance, round by round: the first round isolates, or switches; the second
-- restores.
use Rattle.std.specs.Prelude.{ℕ, Bool, true, false, not, ◌&&◌, ◌||◌, ◌==◌, nat_lt, if◌then◌else◌}
use Rattle.std.specs.Prelude.{List, length, map, filter, find, Option}
use Rattle.std.specs.List.{list_any, list_all}
use Rattle.clr_order.specs.Step.{Task, task, task_points}
use Rattle.clr_order.specs.declared.action.Action.{Action}
use Rattle.clr_order.specs.declared.action.Action.TheVariants.{Close}
use Rattle.clr_order.specs.declared.step.StepState.{StepState}
use Rattle.clr_order.specs.declared.step.StepState.TheVariants.{Waiting, Instructed, Repeated, Done}
use Rattle.clr_rules.specs.Id.{Id, same_id}
use Rattle.clr_rules.specs.declared.step_row.StepRow.{StepRow}

abbrev pub is_waiting : StepState → Bool
is_waiting Waiting = true
is_waiting Instructed = false
is_waiting Repeated = false
is_waiting Done = false

abbrev pub is_repeated : StepState → Bool
is_repeated Repeated = true
is_repeated Waiting = false
is_repeated Instructed = false
is_repeated Done = false

abbrev pub is_done : StepState → Bool
is_done Done = true
is_done Waiting = false
is_done Instructed = false
is_done Repeated = false

-- given out, and not reported yet
abbrev pub is_active : StepState → Bool
is_active Instructed = true
is_active Repeated = true
is_active Waiting = false
is_active Done = false

abbrev pub is_close : Action → Bool
is_close Close = true
is_close _ = false

abbrev pub is_of_round : Id → ℕ → StepRow → Bool
is_of_round c round row = same_id c row.id && (row.round == round)

-- the steps of a clearance in a round, in their order
unfoldable pub steps_in : List StepRow → Id → ℕ → List StepRow
steps_in steps c round = filter (is_of_round c round) steps

-- the steps of a clearance, in all rounds
unfoldable pub steps_of : List StepRow → Id → List StepRow
steps_of steps c = filter (λ row. same_id c row.id) steps

abbrev pub is_some_step : List StepRow → Bool
is_some_step rows = nat_lt 0 (length rows)

-- THE PRESENT ROUND: the second where there is one, otherwise the first; 0 without steps in either
abbrev pub present_round : List StepRow → Id → ℕ
present_round steps c =
    if is_some_step (steps_in steps c 2) then 2 else if is_some_step (steps_in steps c 1) then 1
    else 0

abbrev pub present_steps : List StepRow → Id → List StepRow
present_steps steps c =
    if is_some_step (steps_in steps c 2) then steps_in steps c 2 else steps_in steps c 1

-- the step of a number, from 1
abbrev pub step_at : List StepRow → ℕ → Option StepRow
step_at rows n = find (λ row. row.ordinal == n) rows

-- whether all steps before the one of this number are Done
abbrev pub is_in_turn : List StepRow → ℕ → Bool
is_in_turn rows n = list_all (λ row. not (nat_lt row.ordinal n) || is_done row.step.state) rows

abbrev pub all_done : List StepRow → Bool
all_done rows = list_all (λ row. is_done row.step.state) rows

abbrev pub some_active : List StepRow → Bool
some_active rows = list_any (λ row. is_active row.step.state) rows

-- what the steps do, and where
abbrev pub tasks_of : List StepRow → List Task
tasks_of rows = map (λ row. task row.step) rows

-- the points of the steps, in their order
abbrev pub points_of : List StepRow → List (List ℕ)
points_of rows = task_points (tasks_of rows)
