use Rattle.std.proofs.Common.{◌∙◌, subst, sym}
use Rattle.std.proofs.lemmas.Result.{IfOk-weaker}
use Rattle.clr_load.specs.TypedRows.{IsTyped}
use Rattle.clr_desk.proofs.shelves.with_rows.Goals as goal

pub returns-clause-register : goal.returns-clause-register
returns-clause-register g c =
    IfOk-weaker c.with_shelves.result _ _
    (λ filled is. is ∙ (λ i. record c.args.book.register { records = c.into_shelf.ensures i; steps = c.into_shelf-2.ensures i; holds = c.into_shelf-3.ensures i }))
    c.with_shelves.ensures.register

pub returns-clause-typed : goal.returns-clause-typed
returns-clause-typed g c typed =
    let it : IsTyped (record c.args.book.register { records = c.args.records; steps = c.args.steps; holds = c.args.holds }) = record {
      sections = typed.sections;
      points = typed.points;
      states = typed.states;
      staff = typed.staff;
      records = c.typed.ensures;
      steps = c.typed-2.ensures;
      holds = c.typed-3.ensures;
    } in
    IfOk-weaker c.with_shelves.result _ _ (λ filled is. subst IsTyped (sym is) it) (returns-clause-register g c)
