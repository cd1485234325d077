use Rattle.sqlite.specs.Held.{state}
use Rattle.clr_store.proofs.Wanting.{compiled_stays}
use Rattle.clr_store.proofs.place.want_of_memory.Goals as goal

pub returns-clause-stays : goal.returns-clause-stays
returns-clause-stays g c clean =
    compiled_stays _ (state g.S.Store c.args.conn.now) (state g.S.Store c.prepare.new.self) _ c.prepare.result (c.prepare.ensures.ok clean) (c.prepare.ensures.err clean)
