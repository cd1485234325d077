use Rattle.clr_answer.proofs.checks.work.outside_fence.Goals as goal

pub is_among-inside-requires : goal.is_among-inside-requires
is_among-inside-requires c = rw c.deref.ensures.value c.near.invariant.3
