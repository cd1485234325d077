-- Steps that are put, one after the other, and how far the present round has come with them.
use Rattle.std.specs.Prelude.{Bool, true, not, ◌&&◌, List, [], ◌∷◌, length}
use Rattle.std.specs.List.{count_by, list_any}
use Rattle.std.specs.Ordering.{is_eq}
use Rattle.clr_shelf.specs.Rows.{with_row}
use Rattle.clr_rules.specs.Id.{Id}
use Rattle.clr_rules.specs.StepKey.{step_key, step_key_cmp}
use Rattle.clr_rules.specs.Steps.{is_done, present_steps, present_round}
use Rattle.clr_rules.specs.declared.step_row.StepRow.{StepRow}
use Rattle.clr_answer.specs.declared.card.Progress.{Progress}

-- the steps with each of the rows put
abbrev pub put_all : List StepRow → List StepRow → List StepRow
put_all [] steps = steps
put_all (row ∷ rows) steps = put_all rows (with_row step_key_cmp step_key row steps)

abbrev pub has_key_of : StepRow → StepRow → Bool
has_key_of row new = is_eq (step_key_cmp (step_key row) (step_key new))

-- whether one of the rows has the key of this one
abbrev pub is_put : List StepRow → StepRow → Bool
is_put rows row = list_any (has_key_of row) rows

-- no two of the rows have one key
abbrev pub each_once : List StepRow → Bool
each_once [] = true
each_once (row ∷ rows) = not (is_put rows row) && each_once rows

-- how far the present round of a clearance has come
abbrev pub progress_of : List StepRow → Id → Progress
progress_of steps c = record {
  round = present_round steps c;
  done = count_by (λ row. is_done row.step.state) (present_steps steps c);
  steps = length (present_steps steps c);
}
