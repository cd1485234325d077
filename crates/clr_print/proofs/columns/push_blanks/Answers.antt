use Rattle.std.proofs.Common.{◌≡◌, ℕ, ◌+◌, ◌++◌, ◌∷◌, [], replicate, arith}
use Rattle.std.proofs.lemmas.Grind.{common_steps}
use Rattle.std.proofs.lemmas.List.{replicate-append-replicate}
use Rattle.clr_print.proofs.columns.push_blanks.Goals as goal

one_more : (n : ℕ) → replicate {A = ℕ} n 32 ++ 32 ∷ [] ≡ replicate (n + 1) 32
one_more n = replicate-append-replicate {A = ℕ} n 1 32

pub loop-preserved : goal.loop-preserved
loop-preserved c = let more = one_more c.loop.counter in grind (arith, common_steps, more)
