use Rattle.std.proofs.Common.{◌≤◌, ◌-◌}
use Rattle.clr_stream.specs.Whole.{TakesAtMost}
use Rattle.clr_disk.proofs.closing.read_on.Given as goal

-- as many bytes were taken at most as there is less room for
abbrev pub invariant-loop-room : goal.invariant-loop-room
invariant-loop-room g l = record {
  within : l.room ≤ l.most;
  taken : TakesAtMost (l.most - l.room) (g.R.Read.remaining l.fn.reader) (g.R.Read.remaining l.reader);
}

abbrev pub decreases-loop-room : goal.decreases-loop-room
decreases-loop-room g l = l.room
