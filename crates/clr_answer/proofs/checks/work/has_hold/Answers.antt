use Rattle.clr_answer.proofs.checks.work.has_hold.Goals as goal

pub find_row-requires : goal.find_row-requires
find_row-requires c = rw c.deref.ensures.value c.near.invariant.6
