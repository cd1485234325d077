use Rattle.std.specs.Prelude.{codes}
use Rattle.clr_known.proofs.KnownAnswers.{known_read, read_given}
use Rattle.clr_known.proofs.answers.made_of_files.Goals as goal

pub returns : goal.returns
returns g c =
    let inits = c.init.ensures.visit in
    let has = c.requires in
    read_given g.R.Tables.Store g.met.R.JonesMachine.clean g.R.Makes.makes g.R.Databases.shuts g.R.Databases.ends (codes "new.db") inits.read c.init.result
    c.args.machine.now c.init.new.rt
    (known_read _ _ _ has.sections has.points has.staff inits.read inits.are_read.rows) inits.answer
