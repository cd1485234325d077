use Rattle.std.proofs.Common.{◌∙◌, ap}
use Rattle.clr_desk.proofs.Givings.{leads_itself}
use Rattle.clr_commands.specs.Replies.{asked_commands, asked_lines, readings_of}
use Rattle.clr_commands.proofs.RunAnswers.{passed_cause}
use Rattle.clr_commands.proofs.RunOfInput.{answers_over}
use Rattle.clr_commands.proofs.run.run_over.Goals as goal

pub returns-in_err-bytes-clause-cause : goal.returns-in_err-bytes-clause-cause
returns-in_err-bytes-clause-cause g c = passed_cause _ _ _ _ c.in_err-bytes.ensures.cause c.from_residual.ensures.1

-- a desk whose input was not read is as it was
pub returns-in_err-bytes-clause-led : goal.returns-in_err-bytes-clause-led
returns-in_err-bytes-clause-led g c = leads_itself g.K.Commit.kept g.K.Commit.takes c.args.desk.now

pub returns-in_err-asked-clause-led : goal.returns-in_err-asked-clause-led
returns-in_err-asked-clause-led g c = leads_itself g.K.Commit.kept g.K.Commit.takes c.args.desk.now

-- the answers to the lines of the input
pub returns-clause-answer : goal.returns-clause-answer
returns-clause-answer g c =
    let read = c.as_slice.ensures.value in
    let (over, put) = answers_over _ g.K.Commit.kept g.K.Commit.takes c.args.desk.now c.run-run.new.self c.in_ok-bytes.bytes.items c.run-run.result c.in_ok-asked.asked.commands.items c.as_slice-2.result.now c.print.result
    (c.in_ok-asked.ensures.commands ∙ ap asked_commands read)
    (c.as_slice-2.ensures.value ∙ c.in_ok-asked.ensures.readings ∙ ap (λ bytes. readings_of (asked_lines bytes)) read)
    (record {
      cause = c.run-run.ensures.cause;
      ends = c.run-run.ensures.ends;
      stops = c.run-run.ensures.stops;
      near = c.run-run.ensures.near;
      ran = c.run-run.ensures.ran;
      headline = c.run-run.ensures.headline;
      safe = c.run-run.ensures.safe;
      untouched = c.run-run.ensures.untouched;
      alone = c.run-run.ensures.alone;
      taken = c.run-run.ensures.taken;
      keeps = c.run-run.ensures.keeps;
      crash = c.run-run.ensures.crash;
    })
    c.print.ensures in
    (c.in_ok-bytes.bytes.items, c.in_ok-bytes.ensures.bytes, over, put)
