use Rattle.std.proofs.Common.{◌≡◌, ◌≤◌, ◌+◌, ℕ, List, Option, take, vec_len, ◌-◌}
use Rattle.std.specs.Io.KnownBytes.{Consumes}
use Rattle.clr_http.proofs.request.fill_to.Given as goal

abbrev pub invariant-loop-reader : goal.invariant-loop-reader
invariant-loop-reader g l = record {
  taken : (first : Option (List ℕ)) → Consumes first (g.R.Read.remaining l.fn.reader) l.fn.buffer.items → Consumes first (g.R.Read.remaining l.reader) l.buffer.items;
  kept : take (vec_len l.fn.buffer) l.buffer.items ≡ l.fn.buffer.items;
  grown : vec_len l.fn.buffer ≤ vec_len l.buffer;
  within : l.wanted ≤ 8192 + 65536 → vec_len l.fn.buffer ≤ 8192 + 65536 → vec_len l.buffer ≤ 8192 + 65536;
  calm : g.R.CountedRead.failure_count l.reader ≡ g.R.CountedRead.failure_count l.fn.reader;
}

abbrev pub decreases-loop-reader : goal.decreases-loop-reader
decreases-loop-reader g l = l.wanted - vec_len l.buffer
