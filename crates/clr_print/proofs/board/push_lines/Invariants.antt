use Rattle.std.proofs.Common.{◌≡◌, ◌++◌, map, drop, string_bytes, flat_map}
use Rattle.clr_print.specs.Printed.{board_line}
use Rattle.clr_print.proofs.board.push_lines.Given as goal

abbrev pub invariant-loop-row : goal.invariant-loop-row
invariant-loop-row l =
    string_bytes l.out ++ flat_map (board_line l.clock) (map (λ row. row.now) (drop l.row-index l.standing)) ≡ string_bytes l.initial.out ++ flat_map (board_line l.clock) (map (λ row. row.now) l.standing)
