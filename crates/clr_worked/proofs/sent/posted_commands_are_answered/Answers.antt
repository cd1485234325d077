use Rattle.clr_worked.proofs.SentCommands.{none_other, posted_are_answered, posted_ask}
use Rattle.clr_worked.proofs.sent.posted_commands_are_answered.Goals as goal

pub returns-clause-asked : goal.returns-clause-asked
returns-clause-asked c = posted_ask

pub returns-clause-answered : goal.returns-clause-answered
returns-clause-answered c = posted_are_answered

pub returns-clause-once : goal.returns-clause-once
returns-clause-once c = none_other
