use Rattle.std.specs.Prelude.{codes}
use Rattle.clr_known.proofs.OldMoved.{old_moved, version_two}
use Rattle.clr_known.proofs.version_one.move_of_old.Goals as goal

pub returns-clause-moved : goal.returns-clause-moved
returns-clause-moved g c = old_moved g.R.Tables.Store g.met.R.OldMachine.clean g.R.Databases.opens g.R.Databases.shuts g.R.Databases.ends g.met.R.OldMachine.knows
    (codes "old.db") c.migrate.result c.args.machine.now c.migrate.new.rt c.migrate.ensures.visit

pub returns-clause-printed : goal.returns-clause-printed
returns-clause-printed g c = version_two g.R.Tables.Store g.R.Databases.opens g.R.Databases.ends (codes "old.db") c.migrate.result c.args.machine.now c.migrate.new.rt
    (old_moved g.R.Tables.Store g.met.R.OldMachine.clean g.R.Databases.opens g.R.Databases.shuts g.R.Databases.ends g.met.R.OldMachine.knows
    (codes "old.db") c.migrate.result c.args.machine.now c.migrate.new.rt c.migrate.ensures.visit)
