use Rattle.clr_text.proofs.CommandsRead.{command_values_read_back, commands_read_back}
use Rattle.clr_text.proofs.laws.commands_read_back.Goals as goal

pub returns-clause-texts : goal.returns-clause-texts
returns-clause-texts c = commands_read_back

pub returns-clause-values : goal.returns-clause-values
returns-clause-values c = command_values_read_back
