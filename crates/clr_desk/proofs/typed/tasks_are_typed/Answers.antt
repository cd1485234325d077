use Rattle.std.proofs.Common.{◌∙◌, IsTrue, List, subst}
use Rattle.std.specs.List.{list_all}
use Rattle.std.proofs.lemmas.List.Folds.{list_all-map}
use Rattle.clr_order.specs.Step.{Task, task}
use Rattle.clr_load.specs.TypedRows.{is_typed_task}
use Rattle.clr_desk.proofs.typed.tasks_are_typed.Goals as goal

pub returns : goal.returns
returns c =
    subst (λ (tasks : List Task). IsTrue (list_all is_typed_task tasks)) c.as_slice.ensures
    (list_all-map is_typed_task task c.as_slice.result.now ∙ c.all_typed.ensures)
