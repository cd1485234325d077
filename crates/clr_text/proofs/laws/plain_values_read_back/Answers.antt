use Rattle.clr_text.proofs.CommandsRead.{command_values_are_plain}
use Rattle.clr_text.proofs.PlainTexts.{plain_values_read_back}
use Rattle.clr_text.proofs.laws.plain_values_read_back.Goals as goal

pub returns-clause-values : goal.returns-clause-values
returns-clause-values c = plain_values_read_back

pub returns-clause-commands : goal.returns-clause-commands
returns-clause-commands c = command_values_are_plain
