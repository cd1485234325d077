use Rattle.std.proofs.Common.{◌∙◌, ap}
use Rattle.clr_order.specs.Step.{task_points}
use Rattle.clr_book.proofs.NearFacts.{task_points_are}
use Rattle.clr_book.proofs.book.Book.switched_points.Goals as goal

pub returns-in_ok-points-in-Switch : goal.returns-in_ok-points-in-Switch
returns-in_ok-points-in-Switch g c = rw c.in-Switch.is (c.in_ok-points-in-Switch.ensures ∙ task_points_are c.as_slice.result.now ∙ ap task_points c.as_slice.ensures)
