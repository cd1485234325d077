use Rattle.std.proofs.Common.{◌≡◌, ◌∙◌, List, IsTrue, ap, subst, sym}
use Rattle.std.specs.List.{list_all}
use Rattle.clr_shelf.specs.Rows.{with_row}
use Rattle.clr_desk.proofs.Shelved.{shelved_more}
use Rattle.clr_desk.proofs.TypedRegisters.{with_typed}
use Rattle.clr_desk.proofs.typed_shelf.TypedShelfFill.fill.Goals as goal

pub invariant_of-self-2 : goal.invariant_of-self-2
invariant_of-self-2 g c =
    let old = g.S.Shelf.rows c.self.inside.shelf in
    subst (λ (rows : List g.row.R.Denot). IsTrue (list_all g.R.Typed.is_typed rows))
    (sym (c.put.ensures.rows ∙ ap (with_row g.R.Row.key_cmp g.R.Row.key_of c.args.row) c.reserve.ensures.rows))
    (with_typed g.R.Row.key_cmp g.R.Row.key_of g.met.R.Row.key_order g.R.Typed.is_typed c.args.row old c.typed.ensures c.self.invariant)

pub returns : goal.returns
returns g c rows has =
    let old : g.S.Shelf.rows c.self.inside.shelf ≡ c.args.self.now = c.self.view_is in
    c.put.ensures.rows ∙ ap (with_row g.R.Row.key_cmp g.R.Row.key_of c.args.row) (c.reserve.ensures.rows ∙ old ∙ has)
    ∙ sym (shelved_more g.R.Row.key_cmp g.R.Row.key_of rows c.args.row)
