-- THE ROWS of the worked network's clearances, and their cards, as the examples expect them.
use Rattle.std.specs.Prelude.{ℕ, List, [], ◌∷◌, Option, Some, None}
use Rattle.clr_rules.specs.Prelude.{Task, Step, StepState, Done, Id}
use Rattle.clr_examples.specs.Worked.{JONES, KIM, L2, L3, OPS, REED, jones_1, kim_1, ops_1, does}
use Rattle.clr_examples.specs.Worked.{S2, S3}
use Rattle.clr_rules.specs.declared.phase.Phase.{Phase}
use Rattle.clr_rules.specs.declared.record.Record.{Record}
use Rattle.clr_rules.specs.declared.step_row.StepRow.{StepRow}
use Rattle.clr_rules.specs.declared.reply.Card.{Card}
use Rattle.clr_order.specs.declared.action.Action.TheVariants as actions

-- the record of JONES/1 in a phase, with the moment of its last command; and that of KIM/1, and of
-- OPS/1, which has no work section
abbrev pub jones_record : Phase → ℕ → Record
jones_record phase last =
    record { id = jones_1; holder = JONES; work = Some L2; phase = phase; last = last }

abbrev pub kim_record : Phase → ℕ → Record
kim_record phase last =
    record { id = kim_1; holder = KIM; work = Some L3; phase = phase; last = last }

abbrev pub ops_record : Phase → ℕ → Record
ops_record phase last = record { id = ops_1; holder = OPS; work = None; phase = phase; last = last }

-- the cards: the phase, the round, how many of its steps are done, and how many there are
abbrev pub jones_card : Phase → ℕ → ℕ → ℕ → Card
jones_card phase round done steps =
    record {
      clearance = jones_1;
      phase = phase;
      holder = JONES;
      round = round;
      done = done;
      steps = steps;
    }

abbrev pub kim_card : Phase → ℕ → ℕ → ℕ → Card
kim_card phase round done steps =
    record {
      clearance = kim_1;
      phase = phase;
      holder = KIM;
      round = round;
      done = done;
      steps = steps;
    }

abbrev pub ops_card : Phase → ℕ → ℕ → ℕ → Card
ops_card phase round done steps =
    record {
      clearance = ops_1;
      phase = phase;
      holder = OPS;
      round = round;
      done = done;
      steps = steps;
    }

-- a step of a clearance: its round, its number, what it does, its state and its reader
abbrev pub step_row : Id → ℕ → ℕ → Task → StepState → Option (List ℕ) → StepRow
step_row c round ordinal task state reader =
    record {
      id = c;
      round = round;
      ordinal = ordinal;
      step = record { action = task.action; point = task.point; state = state; reader = reader };
    }

-- a step that REED has done
abbrev pub done_step : Id → ℕ → ℕ → Task → StepRow
done_step c round ordinal task = step_row c round ordinal task Done (Some REED)

-- the six steps that isolate L2, all of them done
abbrev pub l2_steps_done : List StepRow
l2_steps_done =
    done_step jones_1 1 1 (does actions.Open S2) ∷ done_step jones_1 1 2 (does actions.Open S3)
    ∷ done_step jones_1 1 3 (does actions.Block S2) ∷ done_step jones_1 1 4 (does actions.Block S3)
    ∷ done_step jones_1 1 5 (does actions.Tag S2) ∷ done_step jones_1 1 6 (does actions.Tag S3)
    ∷ []

-- a step as it is shown
abbrev pub seen : Task → StepState → Option (List ℕ) → Step
seen task state reader =
    record { action = task.action; point = task.point; state = state; reader = reader }
