use Rattle.std.proofs.Common.{◌≡◌, drop}
use Rattle.clr_order.specs.Isolating.{has_repeat}
use Rattle.clr_order.proofs.isolating.has_repeat.Given as goal

abbrev pub invariant-loop-place : goal.invariant-loop-place
invariant-loop-place l = has_repeat (drop l.place l.points) ≡ has_repeat l.points
