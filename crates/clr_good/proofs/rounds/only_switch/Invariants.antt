use Rattle.std.proofs.Common.{◌≡◌, map, drop}
use Rattle.clr_rules.proofs.Common.{list_all, is_switching}
use Rattle.clr_good.proofs.rounds.only_switch.Given as goal

abbrev pub invariant-loop-row : goal.invariant-loop-row
invariant-loop-row l =
    list_all (λ row. is_switching row.step.action) (map (λ row. row.now) (drop l.row-index l.fn.steps))
    ≡ list_all (λ row. is_switching row.step.action) (map (λ row. row.now) l.fn.steps)
