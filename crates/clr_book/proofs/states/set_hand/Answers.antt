use Rattle.std.proofs.Common.{refl, sym, ap, ◌∙◌}
use Rattle.std.specs.Option.{option_copied}
use Rattle.clr_rules.specs.declared.point_state.PointState.{PointState}
use Rattle.clr_book.proofs.StateFacts.{none_changed, replaced_changed}
use Rattle.clr_book.proofs.states.set_hand.Goals as goal

pub returns-in-Some-clause-rows : goal.returns-in-Some-clause-rows
returns-in-Some-clause-rows g c =
    replaced_changed (g.P.Shelf.rows c.args.states.now) _ c.args.point.now c.in-Some.state.now (λ (state : PointState). record state { hand = c.args.hand }) refl
    (sym c.get.ensures ∙ ap option_copied c.in-Some.is) c.replace.result c.replace.ensures.given c.replace.ensures.rows

pub returns-in_default-clause-rows : goal.returns-in_default-clause-rows
returns-in_default-clause-rows g c =
    none_changed (g.P.Shelf.rows c.args.states.now) c.args.point.now (λ (state : PointState). record state { hand = c.args.hand }) (sym c.get.ensures ∙ ap option_copied c.in_default.is)
