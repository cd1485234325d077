use Rattle.std.proofs.Common.{◌≡◌, ◌-◌, ◌<◌, IsTrue, length}
use Rattle.clr_chain.specs.OnDisk.{WasRead}
use Rattle.clr_chain.proofs.looking.look_back.Given as goal

-- nothing was written so far, and no call of the disk failed
abbrev pub invariant-loop-size : goal.invariant-loop-size
invariant-loop-size g l = record {
  some : 0 < l.size;
  read : WasRead g.D.Disk.seen g.D.Disk.may_leave g.D.Disk.is_clean g.D.Disk.is_usable l.fn.disk l.disk;
  counts : (IsTrue (g.D.Disk.is_clean l.fn.disk) → l.fn.len ≡ length (g.D.Disk.seen l.fn.disk)) → g.D.Disk.faults l.disk ≡ g.D.Disk.faults l.fn.disk;
}

abbrev pub decreases-loop-size : goal.decreases-loop-size
decreases-loop-size g l = l.len - l.size
