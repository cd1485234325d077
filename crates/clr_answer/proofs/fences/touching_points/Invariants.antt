use Rattle.std.proofs.Common.{◌≡◌, ◌++◌, map, filter, drop}
use Rattle.clr_net.specs.Names.{has_name}
use Rattle.clr_net.specs.Fence.{touches}
use Rattle.clr_answer.proofs.fences.touching_points.Given as goal

-- the rows so far, and those that are left, are all
abbrev pub invariant-loop-row : goal.invariant-loop-row
invariant-loop-row l =
    map (λ row. row.now) l.kept.items ++ filter (touches (has_name l.fn.fence)) (map (λ row. row.now) (drop l.row-index l.fn.rows))
    ≡ filter (touches (has_name l.fn.fence)) (map (λ row. row.now) l.fn.rows)
