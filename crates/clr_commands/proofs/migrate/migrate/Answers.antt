use Rattle.clr_keeping.specs.TakenUp.{logs}
use Rattle.clr_commands.proofs.Migrates.{MigratesAt-begun, MigratesAt-moved}
use Rattle.clr_commands.proofs.migrate.migrate.Goals as goal

-- the tables are moved
pub returns-in-None-clause-visit : goal.returns-in-None-clause-visit
returns-in-None-clause-visit g c =
    MigratesAt-moved (logs g.R.Journals g.R.Log.Journal g.R.Time.Clock.shows) g.R.Tables.Store g.R.Databases.opens g.R.Databases.shuts g.R.Databases.ends c.args.args.now
    c.move_unless.result c.args.rt.now c.move_unless.new.rt c.in-None.is c.move_unless.ensures.visit

-- or a journal is begun
pub returns-in-Some-clause-visit : goal.returns-in-Some-clause-visit
returns-in-Some-clause-visit g c =
    MigratesAt-begun (logs g.R.Journals g.R.Log.Journal g.R.Time.Clock.shows) g.R.Tables.Store g.R.Databases.opens g.R.Databases.shuts g.R.Databases.ends c.args.args.now
    c.begin_with.result c.args.rt.now c.begin_with.new.rt c.in-Some.journal c.in-Some.is c.begin_with.ensures.visit
