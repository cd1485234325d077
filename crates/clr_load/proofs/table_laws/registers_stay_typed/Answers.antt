use Rattle.clr_load.proofs.TypedEdits.{commands_keep_typed, openings_are_typed}
use Rattle.clr_load.proofs.table_laws.registers_stay_typed.Goals as goal

pub returns-clause-opening : goal.returns-clause-opening
returns-clause-opening c = openings_are_typed

pub returns-clause-commands : goal.returns-clause-commands
returns-clause-commands c = commands_keep_typed
