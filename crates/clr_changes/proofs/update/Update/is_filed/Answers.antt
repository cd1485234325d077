use Rattle.std.proofs.Common.{◌∙◌, ap, is_some}
use Rattle.clr_net.specs.Grid.{Grid}
use Rattle.clr_net.specs.declared.point.PointRow.{PointRow}
use Rattle.clr_changes.proofs.LookedUp.{found_named, is_there}
use Rattle.clr_changes.proofs.update.Update.is_filed.Goals as goal

pub returns : goal.returns
returns c =
    c.is_some.ensures ∙ is_there c.point.result ∙ ap is_some c.point.ensures
    ∙ found_named (λ (row : PointRow). row.name) (Grid.points c.args.self.now.network) c.args.point
