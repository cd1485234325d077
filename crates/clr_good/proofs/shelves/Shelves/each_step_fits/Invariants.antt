use Rattle.std.proofs.Common.{◌≡◌, map, drop}
use Rattle.std.specs.List.{list_all}
use Rattle.clr_good.specs.Steps.{step_fits}
use Rattle.clr_good.proofs.shelves.Shelves.each_step_fits.Given as goal

abbrev pub invariant-loop-row : goal.invariant-loop-row
invariant-loop-row g l =
    list_all (step_fits l.fn.self) (map (λ x. x.now) (drop l.row-index l.fn.steps)) ≡ list_all (step_fits l.fn.self) (map (λ x. x.now) l.fn.steps)
