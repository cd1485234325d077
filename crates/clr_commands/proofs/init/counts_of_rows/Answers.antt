use Rattle.std.proofs.Common.{Err, refl}
use Rattle.clr_commands.specs.Import.{lists_of}
use Rattle.clr_commands.proofs.MadeRegisters.{counts_of-fault}
use Rattle.clr_commands.proofs.init.counts_of_rows.Goals as goal

pub returns-in-Ok-clause-answer : goal.returns-in-Ok-clause-answer
returns-in-Ok-clause-answer c = c.in-Ok.ensures.built.line_is

pub returns-in-Err-clause-answer : goal.returns-in-Err-clause-answer
returns-in-Err-clause-answer c = counts_of-fault (lists_of c.args.rows) (Err c.in-Err.fault) c.in-Err.fault refl c.in-Err.ensures.refused
