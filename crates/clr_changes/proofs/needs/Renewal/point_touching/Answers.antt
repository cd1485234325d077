use Rattle.std.proofs.Common.{◌≡◌, ◌∙◌, ◌++◌, ap, filter, List, ℕ}
use Rattle.clr_net.specs.Fence.{fence_has, touches}
use Rattle.clr_net.specs.Grid.{point_names}
use Rattle.clr_net.specs.Names.{has_name}
use Rattle.clr_net.specs.declared.point.PointRow.{PointRow}
use Rattle.clr_changes.specs.Needs.{Renewal}
use Rattle.clr_changes.specs.Touched.{first_of}
use Rattle.clr_changes.proofs.needs.Renewal.point_touching.Goals as goal

pub returns : goal.returns
returns g c =
    let V = c.args.self.now in
    let rows : c.deref.result.now ++ c.deref-2.result.now ≡ V.changes.points_go ++ V.changes.points_come =
    (λ i. c.deref.ensures.value i ++ c.deref-2.ensures.value i) ∙ ap (λ (V : Renewal). V.changes.points_go ++ V.changes.points_come) c.self.view_is in
    c.first_of_both.ensures
    ∙ ap (λ (rows : List PointRow). first_of (point_names (filter (touches (fence_has c.in_ok-fence.fence)) rows))) rows
    ∙ ap (λ (names : List (List ℕ)). first_of (point_names (filter (touches (has_name names)) (V.changes.points_go ++ V.changes.points_come)))) c.in_ok-fence.ensures
