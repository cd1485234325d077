use Rattle.std.proofs.Common.{◌∙◌, IsTrue, List, subst}
use Rattle.std.specs.List.{list_all}
use Rattle.std.proofs.lemmas.List.Folds.{list_all-map}
use Rattle.clr_net.specs.Name.{is_name}
use Rattle.clr_order.specs.Step.{Task, task}
use Rattle.clr_text.proofs.values.TasksKeyValue.taken.Goals as goal

pub returns : goal.returns
returns c =
    subst (λ (tasks : List Task). IsTrue (list_all (λ t. is_name t.point) tasks)) c.as_slice.ensures
    (list_all-map (λ t. is_name t.point) task c.as_slice.result.now ∙ c.each_taken.ensures)
