use Rattle.std.specs.Prelude.{codes}
use Rattle.clr_keeping.specs.TakenUp.{logs}
use Rattle.clr_known.proofs.KnownAnswers.{run_given}
use Rattle.clr_known.proofs.answers.run_of_jones.Goals as goal

pub returns : goal.returns
returns g c = run_given g.R.Tables.Store g.met.R.JonesMachine.clean g.R.Databases.opens g.R.Databases.shuts g.R.Databases.ends
    (logs g.R.Journals g.R.Log.Journal g.R.Time.Clock.shows) g.met.R.JonesMachine.knows (codes "jones.db") (g.I.Read.remaining c.args.input.now)
    c.run_stored.result c.args.machine.now c.run_stored.new.rt c.run_stored.ensures.visit
