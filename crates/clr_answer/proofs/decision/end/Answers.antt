use Rattle.std.proofs.Common.{[], ◌∷◌, refl}
use Rattle.clr_rules.specs.Changes.{put_steps}
use Rattle.clr_rules.specs.declared.change.Edit.TheVariants.{PutStep}
use Rattle.clr_answer.proofs.RowLoops.{kept_more}
use Rattle.clr_answer.proofs.decision.end.Goals as goal

pub loop-row-preserved : goal.loop-row-preserved
loop-row-preserved c =
    let i = c.loop-row.row-index in
    let row = c.row-item.result in
    rw c.in_ok-push-2.ensures.items
    (kept_more put_steps c.loop-row.all.items (PutStep row ∷ []) c.args.steps.now i row _
    c.row-item.is c.loop-row-test.true refl c.loop-row.invariant)
