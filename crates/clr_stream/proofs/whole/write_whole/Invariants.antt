use Rattle.std.proofs.Common.{◌≡◌, ◌≤◌, ◌-◌, length, take}
use Rattle.std.specs.Io.KnownBytes.{Appends}
use Rattle.clr_stream.proofs.whole.write_whole.Given as goal

-- what was written so far went out, and no write has failed or taken no byte
abbrev pub invariant-loop-written : goal.invariant-loop-written
invariant-loop-written g l = record {
  inside : l.written ≤ length l.bytes;
  front : Appends (g.W.CountedWrite.stream l.fn.writer).contents (g.W.CountedWrite.stream l.writer).contents (take l.written l.bytes);
  failures : (g.W.CountedWrite.stream l.writer).failures ≡ (g.W.CountedWrite.stream l.fn.writer).failures;
  stalls : (g.W.CountedWrite.stream l.writer).stalls ≡ (g.W.CountedWrite.stream l.fn.writer).stalls;
}

-- how many bytes are still to be written
abbrev pub decreases-loop-written : goal.decreases-loop-written
decreases-loop-written g l = length l.bytes - l.written
