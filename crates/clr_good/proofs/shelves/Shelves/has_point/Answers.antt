use Rattle.std.proofs.Common.{◌∙◌, ap, is_some, sym, List, ℕ}
use Rattle.clr_rules.proofs.Common.{Grid, point_names, has_name, PointRow, Register}
use Rattle.clr_rules.proofs.good.Opening.{unplaced_names}
use Rattle.clr_good.proofs.CodeFacts.{found_named, is_there}
use Rattle.clr_good.proofs.shelves.Shelves.has_point.Goals as goal

pub returns : goal.returns
returns g c =
    let name = c.args.name in
    let points = Grid.points c.self.inside.network.now in
    c.is_some.ensures ∙ is_there c.point.result ∙ ap is_some c.point.ensures
    ∙ found_named (λ (row : PointRow). row.name) points name
    ∙ ap (λ (names : List (List ℕ)). has_name names name) (sym (unplaced_names points))
    ∙ ap (λ (R : Register). has_name (point_names (Grid.points R.net)) name) c.self.view_is
