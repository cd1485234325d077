use Rattle.std.proofs.Common.{vec_len}
use Rattle.clr_level.proofs.Forwarding.{SoFar}
use Rattle.clr_level.proofs.forward.carry_all.Given as goal

-- it has come so far, over the lines before those that are left
abbrev pub invariant-loop-line : goal.invariant-loop-line
invariant-loop-line g l =
    SoFar g.K.Commit.kept g.K.Commit.takes g.K.CommitAt.has_place l.fn.desk l.forward.desk l.fn.place l.forward.at l.forward.pending
    l.fn.lines.items l.left.items

abbrev pub decreases-loop-line : goal.decreases-loop-line
decreases-loop-line g l = vec_len l.left
