use Rattle.clr_known.proofs.FilesAlone.{counts_are_given, nothing_opened}
use Rattle.clr_known.proofs.files_alone.counts_of_files.Goals as goal

pub returns-clause-text : goal.returns-clause-text
returns-clause-text g c =
    let inits = c.init.ensures.visit in
    let has = c.requires in
    counts_are_given c.args.machine.now c.init.new.rt _ _ _ has.sections has.points has.staff inits.read inits.are_read.rows c.init.result inits.answer

pub returns-clause-machine : goal.returns-clause-machine
returns-clause-machine g c =
    let inits = c.init.ensures.visit in
    nothing_opened c.args.machine.now c.init.new.rt inits.read c.init.result inits.answer inits.nothing
