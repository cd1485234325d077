use Rattle.std.proofs.Common.{◌≡◌, map, take}
use Rattle.clr_verify.proofs.registers.references.Given as goal

-- each row before the place has its reference
abbrev pub invariant-loop-row : goal.invariant-loop-row
invariant-loop-row g l = map (λ row. row.now) l.found.items ≡ take l.row-index l.rows
