use Rattle.std.proofs.Common.{refl}
use Rattle.std.specs.IoError.{error_kind}
use Rattle.clr_command_line.specs.CommandLine.{moment}
use Rattle.clr_command_line.proofs.Reported.{IsReported-no_words}
use Rattle.clr_command_line.proofs.command_line.command_line.Goals as goal

-- the words that there are
pub returns-in-Ok-clause-answer : goal.returns-in-Ok-clause-answer
returns-in-Ok-clause-answer g c = rw (c.in-Ok.is, ← c.as_slice.ensures.value) c.command_line_over.ensures.answer

pub returns-in-Ok-clause-words : goal.returns-in-Ok-clause-words
returns-in-Ok-clause-words g c = rw (c.in-Ok.is, ← c.as_slice.ensures.value) c.command_line_over.ensures.words

-- there are none, and nothing was opened
pub returns-in-Err-clause-no_words : goal.returns-in-Err-clause-no_words
returns-in-Err-clause-no_words g c = rw c.in-Err.is ((refl, refl), refl, c.no_words.ensures)

pub returns-in-Err-clause-reported : goal.returns-in-Err-clause-reported
returns-in-Err-clause-reported g c =
    IsReported-no_words (error_kind c.in-Err.cause) c.no_words.result
    (moment c.args.rt.now c.args.input.now (g.W.CountedWrite.stream c.args.output.now) (g.E.CountedWrite.stream c.args.errors.now))
    (moment c.args.rt.now c.args.input.now (g.W.CountedWrite.stream c.args.output.now) (g.E.CountedWrite.stream c.no_words.new.errors))
    ((refl, refl), refl, c.no_words.ensures)
