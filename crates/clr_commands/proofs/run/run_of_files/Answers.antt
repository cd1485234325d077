use Rattle.std.proofs.Common.{refl}
use Rattle.clr_desk.specs.Commit.{nothing}
use Rattle.clr_desk.specs.Taking.{NeverFails}
use Rattle.clr_commands.specs.Import.{lists_of}
use Rattle.clr_commands.proofs.Faults.{any_file_plain}
use Rattle.clr_commands.proofs.MadeRegisters.{AnswersFiles-fault, AnswersFiles-rows, IsRunOf-rows}
use Rattle.clr_commands.proofs.OfNoReader.{any_file-no_input, rows_fault-no_input}
use Rattle.clr_commands.proofs.RunAnswers.{FailsAsSubcommand-desk, FailsAsSubcommand-passed, IsRunOf-run, ReadsInput-desk, ReadsInput-other}
use Rattle.clr_commands.proofs.run.run_of_files.Goals as goal

-- a file has a fault
pub returns-in_err-rows-clause-answer : goal.returns-in_err-rows-clause-answer
returns-in_err-rows-clause-answer g c = AnswersFiles-fault _ _ _ _ _ _ c.in_err-rows.ensures.rows c.from_residual.ensures.1 tt

pub returns-in_err-rows-clause-input : goal.returns-in_err-rows-clause-input
returns-in_err-rows-clause-input g c =
    ReadsInput-other _ _ _ _ _ _ _ (any_file-no_input _ c.in_err-rows.ensures.fault) c.from_residual.ensures.1 refl

pub returns-in_err-rows-clause-faults : goal.returns-in_err-rows-clause-faults
returns-in_err-rows-clause-faults g c = FailsAsSubcommand-passed _ _ c.from_residual.ensures.1 (any_file_plain _ c.in_err-rows.ensures.fault)

-- their rows are no network and no staff
pub returns-in_err-desk-clause-answer : goal.returns-in_err-desk-clause-answer
returns-in_err-desk-clause-answer g c =
    AnswersFiles-rows _ _ _ _ _ c.in_ok-rows.rows c.in_ok-rows.ensures.rows
    (IsRunOf-rows (g.I.Read.remaining c.args.input.now) (lists_of c.in_ok-rows.rows) c.from_residual-in_err-desk.result c.in_err-desk.field-0.0
    c.from_residual-in_err-desk.ensures.1 c.in_err-desk.ensures.fault)

pub returns-in_err-desk-clause-input : goal.returns-in_err-desk-clause-input
returns-in_err-desk-clause-input g c =
    ReadsInput-other _ _ _ _ _ _ _ (rows_fault-no_input (lists_of c.in_ok-rows.rows) _ c.in_err-desk.ensures.fault) c.from_residual-in_err-desk.ensures.1 refl

pub returns-in_err-desk-clause-faults : goal.returns-in_err-desk-clause-faults
returns-in_err-desk-clause-faults g c = FailsAsSubcommand-passed _ _ c.from_residual-in_err-desk.ensures.1 c.in_err-desk.ensures.faults

-- the files begin a register, and the input is answered over it
pub returns-clause-answer : goal.returns-clause-answer
returns-clause-answer g c =
    AnswersFiles-rows _ _ _ _ c.run_over.result c.in_ok-rows.rows c.in_ok-rows.ensures.rows
    (IsRunOf-run (λ _. nothing) NeverFails c.in_ok-desk.desk c.run_over.new.desk (lists_of c.in_ok-rows.rows) _ c.run_over.result c.in_ok-desk.ensures.faultless c.in_ok-desk.ensures.opens c.run_over.ensures.answer)

pub returns-clause-input : goal.returns-clause-input
returns-clause-input g c = ReadsInput-desk _ (λ _. nothing) NeverFails c.in_ok-desk.desk c.run_over.new.desk _ _ _ _ _ c.run_over.result c.run_over.ensures.answer c.run_over.ensures.cause

pub returns-clause-faults : goal.returns-clause-faults
returns-clause-faults g c = FailsAsSubcommand-desk _ (λ _. nothing) NeverFails c.in_ok-desk.desk c.run_over.new.desk _ c.run_over.result c.run_over.ensures.answer
