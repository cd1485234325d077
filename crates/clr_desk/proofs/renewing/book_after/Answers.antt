use Rattle.std.proofs.Common.{◌∙◌, List, ap, subst, sym}
use Rattle.std.proofs.lemmas.Result.{IfOk-weaker}
use Rattle.clr_net.specs.Grid.{Grid}
use Rattle.clr_changes.specs.Renewed.{renewed}
use Rattle.clr_rules.specs.declared.point_state.PointState.{PointState}
use Rattle.clr_store.specs.Renewed.{AreStatesOf}
use Rattle.clr_desk.proofs.Updated.{after_said, states_said}
use Rattle.clr_desk.proofs.renewing.book_after.Goals as goal

pub book_with-requires : goal.book_with-requires
book_with-requires c =
    let (of, made) = c.requires in
    subst (λ (states : List PointState). AreStatesOf (Grid.points c.args.after.network) states) (sym c.deref.ensures.value)
    (states_said c.args.book.now.register of c.args.after made)

pub returns-clause-register : goal.returns-clause-register
returns-clause-register c of made =
    let R = c.args.book.now.register in
    IfOk-weaker c.book_with.result _ _
    (λ book is. is ∙ ap (renewed R c.args.after.network c.args.after.staff) c.deref.ensures.value ∙ after_said R of c.args.after made)
    c.book_with.ensures.register
