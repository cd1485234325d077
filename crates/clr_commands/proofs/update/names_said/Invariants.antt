use Rattle.std.proofs.Common.{◌≡◌, map, drop}
use Rattle.clr_commands.specs.Update.{names_said}
use Rattle.clr_commands.proofs.PointsNamed.{names_after}
use Rattle.clr_commands.proofs.update.names_said.Given as goal

-- the names so far, and those of the other words
abbrev pub invariant-loop-word : goal.invariant-loop-word
invariant-loop-word l =
    names_said (map (λ word. word.now) l.words) ≡ names_after l.names.items (names_said (map (λ word. word.now) (drop l.word-index l.words)))
