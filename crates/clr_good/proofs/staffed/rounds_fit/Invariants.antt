use Rattle.std.proofs.Common.{◌≡◌, map, drop}
use Rattle.std.specs.List.{list_all}
use Rattle.clr_good.specs.Staffed.{round_fits}
use Rattle.clr_good.proofs.staffed.rounds_fit.Given as goal

abbrev pub invariant-loop-row : goal.invariant-loop-row
invariant-loop-row l =
    list_all round_fits (map (λ x. x.now) (drop l.row-index l.fn.steps)) ≡ list_all round_fits (map (λ x. x.now) l.fn.steps)
