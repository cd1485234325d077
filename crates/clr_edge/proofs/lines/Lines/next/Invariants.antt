use Rattle.std.proofs.Common.{◌≡◌, ◌-◌, length}
use Rattle.std.specs.Io.KnownBytes.{Keeps}
use Rattle.clr_edge.specs.Lines.{held_of, left_of}
use Rattle.clr_edge.proofs.lines.Lines.next.Given as goal

-- what is left is what was left, and no read has failed
abbrev pub invariant-loop-self : goal.invariant-loop-self
invariant-loop-self g l = record {
  kept : Keeps (left_of l.fn.self (g.R.Read.remaining l.fn.reader)) (left_of l.self (g.R.Read.remaining l.reader));
  none_failed : g.R.CountedRead.failure_count l.reader ≡ g.R.CountedRead.failure_count l.fn.reader;
}

-- how many more bytes may be read
abbrev pub decreases-loop-self : goal.decreases-loop-self
decreases-loop-self g l = 4194305 - length (held_of l.self)
