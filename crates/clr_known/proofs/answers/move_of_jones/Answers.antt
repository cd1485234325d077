use Rattle.std.specs.Prelude.{codes}
use Rattle.clr_known.proofs.KnownAnswers.{move_given}
use Rattle.clr_known.proofs.answers.move_of_jones.Goals as goal

pub returns : goal.returns
returns g c = move_given g.R.Tables.Store g.met.R.JonesMachine.clean g.R.Databases.opens g.R.Databases.shuts g.R.Databases.ends
    g.met.R.JonesMachine.knows (codes "jones.db") c.migrate.result c.args.machine.now c.migrate.new.rt c.migrate.ensures.visit
