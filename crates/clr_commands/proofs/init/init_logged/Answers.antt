use Rattle.std.proofs.Common.{refl}
use Rattle.clr_commands.specs.Import.{contents_of}
use Rattle.clr_commands.proofs.Faults.{any_file_plain, passed}
use Rattle.clr_commands.proofs.MadeRegisters.{AnswersFiles-fault, AnswersFiles-rows}
use Rattle.clr_commands.proofs.init.init_logged.Goals as goal

-- the files were read, and their register made with a journal
pub returns-clause-visit : goal.returns-clause-visit
returns-clause-visit g c =
    AnswersFiles-rows _ _ _ _ c.register_with_journal.result c.in_ok-rows.rows c.in_ok-rows.ensures.rows
    (contents_of c.in_ok-rows.texts, c.in_ok-rows.ensures.texts, c.in_ok-rows.ensures.known, c.register_with_journal.ensures.visit)

pub returns-in_err-rows-clause-visit : goal.returns-in_err-rows-clause-visit
returns-in_err-rows-clause-visit g c = AnswersFiles-fault _ _ _ _ _ _ c.in_err-rows.ensures.rows c.from_residual.ensures.1 refl

pub returns-in_err-rows-clause-faults : goal.returns-in_err-rows-clause-faults
returns-in_err-rows-clause-faults g c = passed _ _ c.from_residual.ensures.1 (any_file_plain _ c.in_err-rows.ensures.fault)
