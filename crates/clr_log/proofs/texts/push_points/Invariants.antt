use Rattle.std.proofs.Common.{◌≡◌, ◌++◌, drop, string_bytes}
use Rattle.clr_log.specs.Words.{points_words}
use Rattle.clr_log.proofs.texts.push_points.Given as goal

abbrev pub invariant-loop-point : goal.invariant-loop-point
invariant-loop-point l =
    string_bytes l.out ++ points_words (drop l.point-index l.point-items) ≡ string_bytes l.initial.out ++ points_words l.point-items
