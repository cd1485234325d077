use Rattle.std.proofs.Common.{◌≡◌, map, drop}
use Rattle.clr_rules.proofs.Common.{actions_at, steps_left_of, tasks_of}
use Rattle.clr_order.specs.HoldsLeft.{are_undone}
use Rattle.clr_good.proofs.undoing.undo.Given as goal

-- the actions that are left undo what is left exactly where all of them undo all
abbrev pub invariant-loop-row : goal.invariant-loop-row
invariant-loop-row l =
    are_undone l.left (actions_at (tasks_of (steps_left_of (map (λ row. row.now) (drop l.row-index l.fn.steps)))) l.fn.point)
    ≡ are_undone l.fn.held (actions_at (tasks_of (steps_left_of (map (λ row. row.now) l.fn.steps))) l.fn.point)
