use Rattle.std.proofs.Common.{◌≡◌, ◌+◌, ◌-◌, ◌≤◌, vec_len}
use Rattle.std.specs.Io.KnownBytes.{Consumes}
use Rattle.clr_stream.proofs.whole.read_whole.Given as goal

-- the bytes so far are those that the reader gave, and no read has failed
abbrev pub invariant-loop-piece : goal.invariant-loop-piece
invariant-loop-piece g l = record {
  taken : Consumes (g.R.Read.remaining l.fn.reader) (g.R.Read.remaining l.reader) l.bytes.items;
  bounded : vec_len l.bytes ≤ l.limit + 1;
  none_failed : g.R.CountedRead.failure_count l.reader ≡ g.R.CountedRead.failure_count l.fn.reader;
}

-- how many more bytes may be read
abbrev pub decreases-loop-piece : goal.decreases-loop-piece
decreases-loop-piece g l = l.limit + 1 - vec_len l.bytes
