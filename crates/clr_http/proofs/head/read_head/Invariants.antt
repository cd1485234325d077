use Rattle.std.proofs.Common.{◌≡◌, ◌≤◌, ◌-◌, length, vec_len}
use Rattle.std.specs.Io.KnownBytes.{Consumes}
use Rattle.httparse.specs.Grammar.{HasNoRequest}
use Rattle.clr_http.proofs.head.read_head.Given as goal

abbrev pub invariant-loop-reader : goal.invariant-loop-reader
invariant-loop-reader g l = record {
  taken : Consumes (g.R.Read.remaining l.fn.reader) (g.R.Read.remaining l.reader) l.buffer.items;
  none : HasNoRequest l.buffer.items;
  within : vec_len l.buffer ≤ 8192;
  room : length l.headers ≡ 64;
  calm : g.R.CountedRead.failure_count l.reader ≡ g.R.CountedRead.failure_count l.fn.reader;
}

abbrev pub decreases-loop-reader : goal.decreases-loop-reader
decreases-loop-reader g l = 8192 - vec_len l.buffer
