use Rattle.std.proofs.Common.{sym, ◌∙◌}
use Rattle.std.proofs.lemmas.List.{drop_all}
use Rattle.clr_commands.proofs.AnsweredLines.{commands_end, commands_step, lines_end, lines_step, readings_end, readings_step}
use Rattle.clr_commands.proofs.replies.read_all.Goals as goal

pub loop-line-preserved : goal.loop-line-preserved
loop-line-preserved c =
    let split = lines_step c.args.lines.now c.loop-line.line-index _ c.loop-line-test.true in
    record {
      read = readings_step _ _ _ _ _ split c.in_ok-read_line.ensures.readings ∙ c.loop-line.invariant.read;
      commands = commands_step _ _ _ _ _ split c.in_ok-read_line.ensures.commands ∙ c.loop-line.invariant.commands;
    }

pub returns-clause-readings : goal.returns-clause-readings
returns-clause-readings c =
    let none = lines_end c.args.lines.now c.loop-line.line-index (drop_all c.loop-line.line-index c.args.lines.now c.loop-line-test.false) in
    sym (readings_end _ _ none) ∙ c.loop-line.invariant.read

pub returns-clause-commands : goal.returns-clause-commands
returns-clause-commands c =
    let none = lines_end c.args.lines.now c.loop-line.line-index (drop_all c.loop-line.line-index c.args.lines.now c.loop-line-test.false) in
    sym (commands_end _ _ none) ∙ c.loop-line.invariant.commands
