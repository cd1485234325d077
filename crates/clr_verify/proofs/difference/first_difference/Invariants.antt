use Rattle.std.proofs.Common.{◌≡◌, map, take}
use Rattle.clr_verify.proofs.difference.first_difference.Given as goal

-- the rows before the place are the same
abbrev pub invariant-loop-place : goal.invariant-loop-place
invariant-loop-place g l = take l.place (map (λ row. row.now) l.fn.left) ≡ take l.place (map (λ row. row.now) l.fn.right)
