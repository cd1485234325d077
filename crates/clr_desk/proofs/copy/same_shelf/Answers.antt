use Rattle.std.proofs.Common.{◌∙◌, ap, map}
use Rattle.std.proofs.lemmas.Result.{IfOk-weaker}
use Rattle.clr_desk.specs.Shelving.{shelved}
use Rattle.clr_desk.proofs.Filled.{put_into_none}
use Rattle.clr_desk.proofs.copy.same_shelf.Goals as goal

pub returns-clause-put : goal.returns-clause-put
returns-clause-put g c =
    IfOk-weaker c.filled.result _ _
    (λ copy is. is ∙ ap (shelved g.R.Row.key_cmp g.R.Row.key_of) (ap (map (λ row. row.now)) c.deref.ensures.value ∙ c.in_ok-rows.ensures))
    c.filled.ensures

pub returns-clause-rows : goal.returns-clause-rows
returns-clause-rows g c =
    IfOk-weaker c.filled.result _ _
    (λ copy is. is ∙ put_into_none g.R.Row.key_cmp g.R.Row.key_of g.met.R.Row.key_order (g.S.Shelf.rows c.args.shelf.now) (g.met.S.Shelf.in_order c.args.shelf.now))
    (returns-clause-put g c)
