-- THE LIST OF STEPS FITS: each step has a record, is at a point of the network, if its record is
-- open, and has its point in hand while it is given out; while a Close is given out, nothing is at
-- its point but the clearance's own HeldOpen; the steps of each record go in turn, and are as its
-- phase wants them.
use Rattle.std.specs.Prelude.{ℕ, Bool, true, false, not, ◌&&◌, ◌||◌, ◌==◌, List, [], ◌∷◌, Option}
use Rattle.std.specs.Prelude.{None, Some, is_some}
use Rattle.clr_rules.specs.Prelude.{list_all, list_any, fence_of, Grid, point_names, has_name}
use Rattle.clr_rules.specs.Prelude.{Register, has_in_hand, record_of, all_done, is_active, is_done}
use Rattle.clr_rules.specs.Prelude.{is_some_step, is_waiting, points_of, steps_of, tasks_of}
use Rattle.clr_rules.specs.Prelude.{first_of_each}
use Rattle.clr_order.specs.Action.{is_switching}
use Rattle.clr_order.specs.Isolating.{isolating_fault}
use Rattle.clr_rules.specs.Good.{has_record}
use Rattle.clr_rules.specs.GoodByPhase.{of_round, present_of}
use Rattle.clr_rules.specs.Holds.{hinders}
use Rattle.clr_rules.specs.Records.{is_closed}
use Rattle.clr_rules.specs.Steps.{is_close, some_active}
use Rattle.clr_rules.specs.declared.phase.Phase.{Phase}
use Rattle.clr_rules.specs.declared.record.Record.{Record}
use Rattle.clr_rules.specs.declared.step_row.StepRow.{StepRow}
use Rattle.clr_rules.specs.declared.phase.Phase.TheVariants.{Requested, Ordered, Granted, Released}
use Rattle.clr_rules.specs.declared.phase.Phase.TheVariants.{Restoring, Switching, Closed}

-- whether a Close that is given out is kept by no hold from being done
abbrev pub closing_fits : Register → StepRow → Bool
closing_fits R row = not (is_active row.step.state && is_close row.step.action)
    || not (list_any (hinders row.id row.step.point) R.holds)

-- whether the record of a clearance is Closed
abbrev pub found_closed : Option Record → Bool
found_closed None = false
found_closed (Some r) = is_closed r.phase

-- whether a step is at a point of the network, or of a closed record
abbrev pub point_fits : Register → StepRow → Bool
point_fits R row = found_closed (record_of R.records row.id)
    || has_name (point_names (Grid.points R.net)) row.step.point

abbrev pub step_fits : Register → StepRow → Bool
step_fits R row = has_record R.records row.id
    && (point_fits R row
    && ((not (is_active row.step.state) || has_in_hand R.states row.id row.step.point)
    && closing_fits R row))

-- whether the steps of a round wait
abbrev pub round_waits : ℕ → List StepRow → Bool
round_waits round steps =
    list_all (λ row. not (row.round == round) || is_waiting row.step.state) steps

-- in each round the steps go in turn: after one that is not Done all of its round wait
abbrev pub rounds_go_in_turn : List StepRow → Bool
rounds_go_in_turn [] = true
rounds_go_in_turn (row ∷ rest) = (is_done row.step.state || round_waits row.round rest)
    && rounds_go_in_turn rest

-- whether the first round isolates the work section
abbrev pub isolates : Grid → Option (List ℕ) → List StepRow → Bool
isolates g None rows = false
isolates g (Some work) rows =
    not (is_some (isolating_fault (fence_of g work (first_of_each (points_of rows)))
    (first_of_each (points_of rows)) (tasks_of rows)))

-- the steps that are given out and not reported are all in one round
abbrev pub active_within : ℕ → List StepRow → Bool
active_within round steps = list_all (λ row. not (is_active row.step.state) || (row.round == round))
    steps

-- whether the steps of a record are as its phase wants them
abbrev pub steps_suit : Grid → Phase → Option (List ℕ) → List StepRow → Bool
steps_suit g Requested work steps = not (is_some_step steps)
steps_suit g Ordered work steps = isolates g work (of_round steps 1)
    && (not (is_some_step (of_round steps 2)) && active_within 1 steps)
steps_suit g Granted work steps = isolates g work (of_round steps 1)
    && (not (is_some_step (of_round steps 2))
    && (all_done (of_round steps 1) && not (some_active steps)))
steps_suit g Released work steps = isolates g work (of_round steps 1)
    && (not (is_some_step (of_round steps 2)) && not (some_active steps))
steps_suit g Restoring work steps = isolates g work (of_round steps 1)
    && (is_some_step (of_round steps 2) && active_within 2 steps)
steps_suit g Switching work steps = list_all (λ row. is_switching row.step.action) steps
    && (not (is_some_step (of_round steps 2)) && active_within (present_of steps) steps)
steps_suit g Closed work steps = not (some_active steps)

abbrev pub record_steps_fit : Register → Record → Bool
record_steps_fit R r = rounds_go_in_turn (steps_of R.steps r.id)
    && steps_suit R.net r.phase r.work (steps_of R.steps r.id)

abbrev pub steps_fit : Register → Bool
steps_fit R = list_all (step_fits R) R.steps && list_all (record_steps_fit R) R.records
