use Rattle.std.proofs.Common.{◌≡◌, ◌<◌, ◌≤◌, ℕ, get_or, vec_len, vec_capacity}
use Rattle.clr_net.specs.Index.{IsStart}
use Rattle.clr_net.proofs.ways.fill_starts.Given as goal

abbrev pub invariant-loop-place : goal.invariant-loop-place
invariant-loop-place l = record {
  len : vec_len l.starts ≡ l.place-counter;
  each : (j : ℕ) → j < l.place-counter → IsStart l.out j (get_or l.starts.items j 0);
  room : vec_capacity l.initial.starts ≤ vec_capacity l.starts;
}
