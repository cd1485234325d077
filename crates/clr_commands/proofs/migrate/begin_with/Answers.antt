use Rattle.std.proofs.Common.{List, ℕ, subst, sym}
use Rattle.std.specs.Prelude.{Option}
use Rattle.std.specs.Borrow.{Bor}
use Rattle.clr_keeping.specs.TakenUp.{logs}
use Rattle.clr_commands.specs.Migrate.{BeginsWith}
use Rattle.clr_commands.proofs.migrate.begin_with.Goals as goal

-- a journal is begun
pub returns-in-None-clause-visit : goal.returns-in-None-clause-visit
returns-in-None-clause-visit g c =
    subst (λ (after : Option (Bor (List ℕ))). BeginsWith (logs g.R.Journals g.R.Log.Journal g.R.Time.Clock.shows) g.R.Tables.Store g.R.Databases.opens g.R.Databases.shuts
    g.R.Databases.ends c.args.path.now c.args.journal.now after c.begin_for.result c.args.rt.now c.begin_for.new.rt) (sym c.in-None.is) c.begin_for.ensures.visit

-- or a part, after the number that is named
pub returns-in-Some-clause-visit : goal.returns-in-Some-clause-visit
returns-in-Some-clause-visit g c =
    subst (λ (after : Option (Bor (List ℕ))). BeginsWith (logs g.R.Journals g.R.Log.Journal g.R.Time.Clock.shows) g.R.Tables.Store g.R.Databases.opens g.R.Databases.shuts
    g.R.Databases.ends c.args.path.now c.args.journal.now after c.begin_after.result c.args.rt.now c.begin_after.new.rt) (sym c.in-Some.is) c.begin_after.ensures.visit
