use Rattle.std.proofs.Common.{arith}
use Rattle.clr_disk.proofs.Taken.{more_taken}
use Rattle.clr_disk.proofs.closing.read_on.Goals as goal

pub loop-room-preserved : goal.loop-room-preserved
loop-room-preserved g c = record {
  within = omega (arith, c.loop-room.invariant.within);
  taken = more_taken _ _ _ _ _ _ c.loop-room.invariant.within c.read_some-count.ensures.within c.loop-room.invariant.taken c.read_some-count.ensures.taken;
}
