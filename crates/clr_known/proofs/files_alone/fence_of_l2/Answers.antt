use Rattle.clr_known.proofs.FilesAlone.{fence_given}
use Rattle.clr_known.proofs.files_alone.fence_of_l2.Goals as goal

pub returns : goal.returns
returns g c = fence_given _ _ c.requires.sections c.requires.points _ c.in-Ok.ensures c.fence.result c.fence.ensures.answer.answer
