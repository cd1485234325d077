use Rattle.clr_commands.proofs.RunAnswers.{FailsAsSubcommand-desk, ReadsInput-desk}
use Rattle.clr_commands.proofs.run.run_taken_up.Goals as goal

pub returns-clause-ran : goal.returns-clause-ran
returns-clause-ran g c = record { answer = c.run_over.ensures.answer; none = c.run_over.ensures.none; led = c.run_over.ensures.led }

pub returns-clause-input : goal.returns-clause-input
returns-clause-input g c =
    ReadsInput-desk _ g.K.Commit.kept g.K.Commit.takes c.args.desk.now c.run_over.new.desk _ _ _ _ _ c.run_over.result c.run_over.ensures.answer c.run_over.ensures.cause

pub returns-clause-faults : goal.returns-clause-faults
returns-clause-faults g c = FailsAsSubcommand-desk _ g.K.Commit.kept g.K.Commit.takes c.args.desk.now c.run_over.new.desk _ c.run_over.result c.run_over.ensures.answer
