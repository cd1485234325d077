use Rattle.clr_disk.proofs.place.is_of.Goals as goal

-- it is at none of the four paths
pub returns-clause-other : goal.returns-clause-other
returns-clause-other g c e = (
  c.in_ok-is_at.ensures.elsewhere (cc (c.if-branch.false)),
  c.in_ok-is_at-2.ensures.elsewhere (cc (c.if-branch-2.false)),
  c.in_ok-is_at-3.ensures.elsewhere (cc (c.if-branch-3.false)),
  c.is_at-4.ensures.elsewhere e,
)
