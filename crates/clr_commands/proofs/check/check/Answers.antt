use Rattle.clr_commands.proofs.Faults.{any_file_plain, passed}
use Rattle.clr_commands.proofs.MadeRegisters.{AnswersFiles-fault, AnswersFiles-rows}
use Rattle.clr_commands.proofs.check.check.Goals as goal

-- a file has a fault
pub returns-in_err-rows-clause-answer : goal.returns-in_err-rows-clause-answer
returns-in_err-rows-clause-answer g c = AnswersFiles-fault _ _ _ _ _ _ c.in_err-rows.ensures.rows c.from_residual.ensures.1 tt

pub returns-in_err-rows-clause-faults : goal.returns-in_err-rows-clause-faults
returns-in_err-rows-clause-faults g c = passed _ _ c.from_residual.ensures.1 (any_file_plain _ c.in_err-rows.ensures.fault)

-- the rows are judged
pub returns-clause-answer : goal.returns-clause-answer
returns-clause-answer g c = AnswersFiles-rows _ _ _ _ _ c.in_ok-rows.rows c.in_ok-rows.ensures.rows c.check_of_rows.ensures.answer
