use Rattle.clr_store.proofs.Creating.{then_reaches}
use Rattle.clr_store.proofs.create.make_logged_tables.Goals as goal

pub returns : goal.returns
returns g c = then_reaches g.S.Store c.args.tx.now c.make_tables.new.tx c.make_journal.new.tx _ _ _ _ c.make_journal.result c.in_ok-make_tables.ensures c.make_journal.ensures.empty
