use Rattle.std.proofs.Common.{[], ◌∷◌}
use Rattle.clr_load.specs.Tables.{place_row}
use Rattle.clr_store.proofs.Beginning.{then_puts}
use Rattle.clr_store.proofs.place.add_journal.Goals as goal

pub returns : goal.returns
returns g c =
    then_puts g.S.Store c.args.tx.now c.make_journal.new.tx c.add_place.new.tx (λ rows. place_row c.args.place.now ∷ rows) [] _ c.add_place.result c.in_ok-make_journal.ensures.beside c.add_place.ensures
