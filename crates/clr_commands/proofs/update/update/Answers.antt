use Rattle.std.proofs.Common.{refl}
use Rattle.clr_commands.proofs.Faults.{any_file_plain, passed}
use Rattle.clr_commands.proofs.MadeRegisters.{AnswersFiles-fault, AnswersFiles-rows}
use Rattle.clr_commands.proofs.update.update.Goals as goal

pub returns-in_err-rows-clause-visit : goal.returns-in_err-rows-clause-visit
returns-in_err-rows-clause-visit g c = AnswersFiles-fault _ _ _ _ _ _ c.in_err-rows.ensures.rows c.from_residual.ensures.1 refl

pub returns-in_err-rows-clause-faults : goal.returns-in_err-rows-clause-faults
returns-in_err-rows-clause-faults g c = passed _ _ c.from_residual.ensures.1 (any_file_plain _ c.in_err-rows.ensures.fault)
