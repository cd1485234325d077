use Rattle.clr_known.proofs.FilesAlone.{reply_given}
use Rattle.clr_known.proofs.files_alone.reply_over_files.Goals as goal

pub returns-clause-text : goal.returns-clause-text
returns-clause-text g c known =
    let runs = c.run.ensures.visit.0 in
    let has = c.requires in
    reply_given (g.I.Read.remaining c.args.input.now) _ _ _ known has.sections has.points has.staff runs.read runs.are_read.rows c.run.result runs.answer

pub returns-clause-machine : goal.returns-clause-machine
returns-clause-machine g c = c.run.ensures.visit.1
