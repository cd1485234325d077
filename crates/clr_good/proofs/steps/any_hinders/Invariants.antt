use Rattle.std.proofs.Common.{◌≡◌, map, drop}
use Rattle.clr_rules.proofs.Common.{list_any, hinders}
use Rattle.clr_good.proofs.steps.any_hinders.Given as goal

abbrev pub invariant-loop-hold : goal.invariant-loop-hold
invariant-loop-hold l =
    list_any (hinders l.fn.id l.fn.point) (map (λ hold. hold.now) (drop l.hold-index l.fn.holds)) ≡ list_any (hinders l.fn.id l.fn.point) (map (λ hold. hold.now) l.fn.holds)
