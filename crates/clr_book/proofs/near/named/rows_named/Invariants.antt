use Rattle.std.proofs.Common.{◌++◌, map, filter, drop}
use Rattle.std.specs.List.Sorted.{IsPermutation, IsStrictlySortedBy}
use Rattle.clr_net.specs.Name.{name_cmp}
use Rattle.clr_net.specs.Names.{has_name}
use Rattle.clr_book.proofs.near.named.rows_named.Given as goal

-- the rows found, and those of the names that are left, are all
abbrev pub invariant-loop-name : goal.invariant-loop-name
invariant-loop-name g l =
    IsStrictlySortedBy name_cmp (drop l.name-index l.fn.names)
    × IsPermutation (filter (λ row. has_name l.fn.names (g.R.Named.name_of row)) l.fn.rows)
    (map (λ row. row.now) l.found.items ++ filter (λ row. has_name (drop l.name-index l.fn.names) (g.R.Named.name_of row)) l.fn.rows)
