use Rattle.std.proofs.Common.{◌∙◌, ap, filter, map, List}
use Rattle.clr_net.specs.Grid.{Grid, unplaced}
use Rattle.clr_net.specs.declared.point.PointRow.{PointRow}
use Rattle.clr_changes.proofs.outcome.own_jumpers.Goals as goal

pub returns : goal.returns
returns g c =
    c.in_ok-found.ensures ∙ ap (λ (points : List PointRow). filter (λ p. p.jumper) (map unplaced points)) c.points.ensures.rows
    ∙ ap (λ (g : Grid). filter (λ (p : PointRow). p.jumper) g.points) c.network.ensures.register
