use Rattle.std.proofs.Common.{◌≡◌, ◌≤◌, ◌++◌, map, drop, length}
use Rattle.clr_rules.specs.Register.{first_state}
use Rattle.clr_book.proofs.states.opening_states.Given as goal

-- what is put, and what is left to put, are all the states; and there is room for what is left
abbrev pub invariant-loop-point : goal.invariant-loop-point
invariant-loop-point g l =
    (g.P.Shelf.rows l.states ++ map first_state (drop l.point-index l.fn.points) ≡ map first_state l.fn.points)
    × (length (drop l.point-index l.fn.points) ≤ g.P.Shelf.room l.states)
