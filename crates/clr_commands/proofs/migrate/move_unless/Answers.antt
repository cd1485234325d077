use Rattle.std.proofs.Common.{List, ℕ, Err, refl, subst, sym}
use Rattle.std.specs.Prelude.{Option}
use Rattle.std.specs.Borrow.{Bor}
use Rattle.clr_edge.specs.Visit.{Alone, Comes, MovesRegister}
use Rattle.clr_edge.specs.declared.fault.Fault.TheVariants.{Journal}
use Rattle.clr_edge.specs.declared.fault.JournalFault.TheVariants.{Missing}
use Rattle.clr_commands.specs.Migrate.{MovesUnless}
use Rattle.clr_commands.proofs.Faults.{journal_plain}
use Rattle.clr_commands.proofs.migrate.move_unless.Goals as goal

-- no number is named
pub returns-in-None-clause-visit : goal.returns-in-None-clause-visit
returns-in-None-clause-visit g c =
    subst (λ (after : Option (Bor (List ℕ))). MovesUnless (Comes g.R.Databases.opens g.R.Databases.shuts g.R.Databases.ends c.args.path.now (Alone (MovesRegister g.R.Tables.Store)))
    after c.move_tables.result c.args.rt.now c.move_tables.new.rt) (sym c.in-None.is) c.move_tables.ensures.visit

-- or one is
pub returns-in-Some-clause-visit : goal.returns-in-Some-clause-visit
returns-in-Some-clause-visit g c =
    subst (λ (after : Option (Bor (List ℕ))). MovesUnless (Comes g.R.Databases.opens g.R.Databases.shuts g.R.Databases.ends c.args.path.now (Alone (MovesRegister g.R.Tables.Store)))
    after (Err (Journal Missing)) c.args.rt.now c.args.rt.now) (sym c.in-Some.is) (refl, refl)

pub returns-in-Some-clause-faults : goal.returns-in-Some-clause-faults
returns-in-Some-clause-faults g c = journal_plain _ Missing refl
