use Rattle.std.proofs.Common.{◌≡◌, map, drop}
use Rattle.clr_commands.specs.Fence.{points_named}
use Rattle.clr_commands.proofs.PointsNamed.{names_after}
use Rattle.clr_commands.proofs.fence.points_named.Given as goal

-- the names so far, and those of the other words
abbrev pub invariant-loop-word : goal.invariant-loop-word
invariant-loop-word l =
    points_named l.network (map (λ word. word.now) l.words) ≡ names_after l.names.items (points_named l.network (map (λ word. word.now) (drop l.word-index l.words)))
