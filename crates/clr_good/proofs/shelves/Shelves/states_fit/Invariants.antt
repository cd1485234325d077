use Rattle.std.proofs.Common.{◌≡◌, map, drop}
use Rattle.std.specs.List.{list_all}
use Rattle.clr_good.specs.Points.{state_fits}
use Rattle.clr_good.proofs.shelves.Shelves.states_fit.Given as goal

abbrev pub invariant-loop-state : goal.invariant-loop-state
invariant-loop-state g l =
    list_all (state_fits l.fn.self.steps) (map (λ x. x.now) (drop l.state-index l.fn.states)) ≡ list_all (state_fits l.fn.self.steps) (map (λ x. x.now) l.fn.states)
