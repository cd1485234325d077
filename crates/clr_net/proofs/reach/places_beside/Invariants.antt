use Rattle.std.proofs.Common.{◌≡◌, ◌++◌, drop}
use Rattle.clr_net.specs.Search.{points_around}
use Rattle.clr_net.specs.Ways.{around_of}
use Rattle.clr_net.proofs.reach.places_beside.Given as goal

-- the points so far, and those around the sections that are left, are all
abbrev pub invariant-loop-place : goal.invariant-loop-place
invariant-loop-place l =
    l.points.items ++ points_around (around_of l.ways) (drop l.place-index l.inside) ≡ points_around (around_of l.ways) l.inside
