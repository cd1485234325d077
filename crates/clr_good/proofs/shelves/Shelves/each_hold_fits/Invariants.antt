use Rattle.std.proofs.Common.{◌≡◌, map, drop, IfSome}
use Rattle.std.specs.List.{list_all}
use Rattle.clr_good.specs.Around.{IsAround}
use Rattle.clr_good.specs.Holds.{hold_fits}
use Rattle.clr_good.proofs.shelves.Shelves.each_hold_fits.Given as goal

abbrev pub invariant-loop-hold : goal.invariant-loop-hold
invariant-loop-hold g l =
    (list_all (hold_fits l.fn.self) (map (λ x. x.now) (drop l.hold-index l.fn.holds)) ≡ list_all (hold_fits l.fn.self) (map (λ x. x.now) l.fn.holds))
    × IfSome l.last (IsAround l.fn.self)
