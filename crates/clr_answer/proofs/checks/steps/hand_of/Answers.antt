use Rattle.clr_answer.proofs.checks.steps.hand_of.Goals as goal

pub find_row-requires : goal.find_row-requires
find_row-requires c = rw c.deref.ensures.value c.near.invariant.4
