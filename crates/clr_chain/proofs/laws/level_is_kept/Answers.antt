use Rattle.clr_chain.proofs.LevelKept.{lines_keep, new_journals, steps_keep}
use Rattle.clr_chain.proofs.laws.level_is_kept.Goals as goal

pub returns-clause-new : goal.returns-clause-new
returns-clause-new c = new_journals

pub returns-clause-lines : goal.returns-clause-lines
returns-clause-lines c = lines_keep

pub returns-clause-steps : goal.returns-clause-steps
returns-clause-steps c = steps_keep
