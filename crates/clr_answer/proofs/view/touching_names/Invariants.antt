use Rattle.std.proofs.Common.{◌≡◌, ◌++◌, map, drop, filter}
use Rattle.clr_net.specs.Grid.{point_names, unplaced}
use Rattle.clr_net.specs.Names.{has_name}
use Rattle.clr_rules.specs.Fences.{touching_names}
use Rattle.clr_net.specs.Fence.{touches}
use Rattle.clr_answer.proofs.view.touching_names.Given as goal

abbrev pub invariant-loop-point : goal.invariant-loop-point
invariant-loop-point l =
    l.names.items ++ point_names (filter (touches (has_name l.fence)) (map (λ row. unplaced row.now) (drop l.point-index l.point-items))) ≡ touching_names l.near.rows.net (has_name l.fence)
