use Rattle.std.proofs.Common.{Ok, option_copied, option_map, subst, sym}
use Rattle.clr_load.specs.Tables.{place_row}
use Rattle.clr_store.specs.Change.{SetsIfGiven}
use Rattle.clr_store.proofs.Turned.{sets_none}
use Rattle.clr_store.proofs.place.set_if_given.Goals as goal

pub returns-in-None : goal.returns-in-None
returns-in-None g c =
    subst (λ place. SetsIfGiven {X = Unit {0}} g.S.Store c.args.tx.now c.args.tx.now (option_map place_row (option_copied place)) (Ok tt)) (sym c.in-None.is) (sets_none g.S.Store c.args.tx.now)
