use Rattle.std.proofs.Common.{map, take}
use Rattle.clr_desk.proofs.copy.filled.Given as goal

-- the rows before the place are copied
abbrev pub invariant-loop-row : goal.invariant-loop-row
invariant-loop-row g l = g.F.Fill.has l.found (map (λ row. row.now) (take l.row-index l.rows))
