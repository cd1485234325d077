use Rattle.std.proofs.Common.{◌∙◌, ap, map, Bor, List}
use Rattle.clr_rules.proofs.Common.{list_any, hinders, Register}
use Rattle.clr_good.proofs.CodeFacts.{hinders_there}
use Rattle.clr_good.proofs.shelves.Shelves.is_hindered.Goals as goal
use Rattle.clr_rules.specs.declared.hold.Hold.{Hold}

pub returns : goal.returns
returns g c =
    let test = hinders c.args.id c.args.point in
    c.any_hinders.ensures
    ∙ ap (λ (holds : List (Bor Hold)). list_any test (map (λ hold. hold.now) holds)) c.deref.ensures.value
    ∙ ap (list_any test) c.in_ok-holds.ensures
    ∙ hinders_there c.args.id c.args.point (g.H.Shelf.rows c.self.inside.holds.now)
    ∙ ap (λ (R : Register). list_any test R.holds) c.self.view_is
