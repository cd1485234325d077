use Rattle.clr_text.proofs.CommandsSent.{commands_at_keys_can_be_sent, read_commands_can_be_sent}
use Rattle.clr_text.proofs.laws.read_commands_can_be_sent.Goals as goal

pub returns-clause-lines : goal.returns-clause-lines
returns-clause-lines c = read_commands_can_be_sent

pub returns-clause-parts : goal.returns-clause-parts
returns-clause-parts c = commands_at_keys_can_be_sent
