use Rattle.clr_rules.proofs.good.DeadWork.{grounded_sections_are_dead, no_source_feeds_grounds}
use Rattle.clr_rules.proofs.laws.work.grounded_sections_are_dead.Goals as goal

pub returns-clause-dead : goal.returns-clause-dead
returns-clause-dead c = grounded_sections_are_dead

pub returns-clause-unfed : goal.returns-clause-unfed
returns-clause-unfed c = no_source_feeds_grounds
