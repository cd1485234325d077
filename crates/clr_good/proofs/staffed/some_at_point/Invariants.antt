use Rattle.std.proofs.Common.{◌≡◌, map, drop}
use Rattle.clr_good.specs.Staffed.{some_at_point}
use Rattle.clr_good.proofs.staffed.some_at_point.Given as goal

abbrev pub invariant-loop-hold : goal.invariant-loop-hold
invariant-loop-hold l =
    some_at_point (map (λ x. x.now) (drop l.hold-index l.fn.holds)) ≡ some_at_point (map (λ x. x.now) l.fn.holds)
