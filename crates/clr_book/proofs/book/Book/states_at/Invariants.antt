use Rattle.std.proofs.Common.{◌≡◌, ◌++◌, map, filter, drop}
use Rattle.std.specs.List.Sorted.{IsStrictlySortedBy}
use Rattle.clr_net.specs.Name.{name_cmp}
use Rattle.clr_net.specs.Names.{has_name}
use Rattle.clr_book.proofs.book.Book.states_at.Given as goal

-- the states so far, and those of the points that are left, are all
abbrev pub invariant-loop-k : goal.invariant-loop-k
invariant-loop-k g l =
    IsStrictlySortedBy name_cmp (drop l.k l.fn.points)
    × (map (λ row. row.now) l.found.items ++ filter (λ state. has_name (drop l.k l.fn.points) state.point) l.fn.self.register.states
    ≡ filter (λ state. has_name l.fn.points state.point) l.fn.self.register.states)
