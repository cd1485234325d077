use Rattle.std.proofs.Common.{◌≡◌, map, take}
use Rattle.clr_book.proofs.book.rows.filled.Given as goal

-- the rows before the place are copied
abbrev pub invariant-loop-row : goal.invariant-loop-row
invariant-loop-row g l = g.S.Shelf.rows l.shelf ≡ take l.row-index (map (λ row. row.now) l.rows)
