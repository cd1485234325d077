use Rattle.std.specs.Prelude.{codes, pos}
use Rattle.clr_commands.specs.Order.{order_told}
use Rattle.clr_known.proofs.KnownVisits.{answer_given}
use Rattle.clr_known.proofs.answers.order_of_jones.Goals as goal

pub returns : goal.returns
returns g c = answer_given g.R.Tables.Store g.met.R.JonesMachine.clean g.R.Databases.opens g.R.Databases.shuts g.R.Databases.ends
    g.met.R.JonesMachine.knows (codes "jones.db") _ (λ Q. order_told Q (codes "JONES/1") (codes "1") (pos 0)) c.order.result c.args.machine.now
    c.order.new.rt c.order.ensures.visit
