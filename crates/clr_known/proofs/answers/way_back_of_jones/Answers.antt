use Rattle.std.specs.Prelude.{codes}
use Rattle.clr_rules.specs.IdText.{read_id}
use Rattle.clr_known.proofs.KnownVisits.{way_back_given}
use Rattle.clr_known.proofs.answers.way_back_of_jones.Goals as goal

pub returns : goal.returns
returns g c = way_back_given g.R.Tables.Store g.met.R.JonesMachine.clean g.R.Databases.opens g.R.Databases.shuts g.R.Databases.ends
    g.met.R.JonesMachine.knows (codes "jones.db") (read_id (codes "JONES/1")) c.wayback.result c.args.machine.now
    c.wayback.new.rt c.wayback.ensures.visit
