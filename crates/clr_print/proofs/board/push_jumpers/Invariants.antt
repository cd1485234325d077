use Rattle.std.proofs.Common.{◌≡◌, ◌++◌, map, drop, string_bytes}
use Rattle.clr_net.specs.Grid.{unplaced}
use Rattle.clr_print.specs.Printed.{jumper_lines}
use Rattle.clr_print.proofs.board.push_jumpers.Given as goal

abbrev pub invariant-loop-point : goal.invariant-loop-point
invariant-loop-point g l =
    string_bytes l.out ++ jumper_lines l.book.register.states (map unplaced (drop l.point-index l.points)) ≡ string_bytes l.initial.out ++ jumper_lines l.book.register.states (map unplaced l.points)
