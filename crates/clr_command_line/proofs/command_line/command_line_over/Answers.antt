use Rattle.std.proofs.Common.{arith, inl, inr, map, refl}
use Rattle.clr_edge.specs.declared.fault.Fault.TheVariants.{Memory}
use Rattle.clr_commands.specs.Connections.{seen}
use Rattle.clr_edge.specs.Paths.{at_paths}
use Rattle.clr_command_line.specs.Around.{around, steps}
use Rattle.clr_command_line.specs.CommandLine.{moment}
use Rattle.clr_keeping.specs.TakenUp.{logs}
use Rattle.clr_command_line.proofs.Reported.{MayAnswer-does, does, memory_is_no_output, reported_fault}
use Rattle.clr_command_line.proofs.command_line.command_line_over.Goals as goal

-- the words come to something, which is done
pub returns-in-Ok-clause-answer : goal.returns-in-Ok-clause-answer
returns-in-Ok-clause-answer g c = inr (c.in-Ok.parsed, c.in-Ok.ensures, c.answer.ensures)

pub returns-in-Ok-clause-reported : goal.returns-in-Ok-clause-reported
returns-in-Ok-clause-reported g c =
    does (steps (logs g.R.Journals g.R.Log.Journal g.R.Time.Clock.shows) g.R.Tables.Store g.R.Makes.makes g.R.Databases.opens g.R.Databases.shuts g.R.Databases.ends g.R.Loopback
    (seen g.R.Reader.Read.remaining g.R.Reader.CountedRead.failure_count g.R.Writer.CountedWrite.stream))
    (around (at_paths g.O.File.Read.remaining g.O.File.CountedRead.failure_count (g.O.Opens.bytes_at c.args.paths.now)) (g.O.Opens.owns c.args.paths.now) (g.O.Opens.spares c.args.paths.now) g.I.Read.remaining g.I.CountedRead.failure_count) c.in-Ok.parsed c.answer.result
    (moment c.args.rt.now c.args.input.now (g.W.CountedWrite.stream c.args.output.now) (g.E.CountedWrite.stream c.args.errors.now))
    (moment c.answer.new.rt c.answer.new.input (g.W.CountedWrite.stream c.answer.new.output) (g.E.CountedWrite.stream c.answer.new.errors))
    c.answer.ensures

pub returns-in-Ok-clause-words : goal.returns-in-Ok-clause-words
returns-in-Ok-clause-words g c =
    MayAnswer-does (steps (logs g.R.Journals g.R.Log.Journal g.R.Time.Clock.shows) g.R.Tables.Store g.R.Makes.makes g.R.Databases.opens g.R.Databases.shuts g.R.Databases.ends g.R.Loopback
    (seen g.R.Reader.Read.remaining g.R.Reader.CountedRead.failure_count g.R.Writer.CountedWrite.stream))
    (around (at_paths g.O.File.Read.remaining g.O.File.CountedRead.failure_count (g.O.Opens.bytes_at c.args.paths.now)) (g.O.Opens.owns c.args.paths.now) (g.O.Opens.spares c.args.paths.now) g.I.Read.remaining g.I.CountedRead.failure_count) (map g.S.AsStr.text c.args.words.now) c.in-Ok.parsed c.answer.result
    (moment c.args.rt.now c.args.input.now (g.W.CountedWrite.stream c.args.output.now) (g.E.CountedWrite.stream c.args.errors.now))
    (moment c.answer.new.rt c.answer.new.input (g.W.CountedWrite.stream c.answer.new.output) (g.E.CountedWrite.stream c.answer.new.errors))
    c.in-Ok.ensures c.answer.ensures

-- or memory ran out
pub returns-in-Err-clause-answer : goal.returns-in-Err-clause-answer
returns-in-Err-clause-answer g c = inl ((refl, refl), refl, c.report_fault.ensures)

pub returns-in-Err-clause-reported : goal.returns-in-Err-clause-reported
returns-in-Err-clause-reported g c = reported_fault Memory _ _ _ _ _ memory_is_no_output refl c.report_fault.ensures

pub returns-in-Err-clause-words : goal.returns-in-Err-clause-words
returns-in-Err-clause-words g c zero = absurd (omega (arith, zero, c.report_fault.ensures.0))
