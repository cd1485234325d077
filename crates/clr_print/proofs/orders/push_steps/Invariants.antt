use Rattle.std.proofs.Common.{◌≡◌, ◌++◌, map, drop, string_bytes, flat_map}
use Rattle.clr_print.specs.Printed.{step_line}
use Rattle.clr_print.proofs.orders.push_steps.Given as goal

abbrev pub invariant-loop-row : goal.invariant-loop-row
invariant-loop-row l =
    string_bytes l.out ++ flat_map step_line (map (λ row. row.now) (drop l.row-index l.rows)) ≡ string_bytes l.initial.out ++ flat_map step_line (map (λ row. row.now) l.rows)
