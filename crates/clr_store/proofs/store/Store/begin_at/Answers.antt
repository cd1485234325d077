use Rattle.std.proofs.Common.{◌≡◌, [], None, Some, rules, subst}
use Rattle.sqlite.specs.Held.{state}
use Rattle.clr_load.specs.TableEdits.{tables_edited}
use Rattle.clr_store.specs.Transaction.{FailsAs, PlacesAs, Transacts}
use Rattle.clr_store.proofs.store.Store.begin_at.Goals as goal

pub returns-clause-transacts : goal.returns-clause-transacts
returns-clause-transacts g c =
    let is : c.self.inside.connection ≡ c.args.self.now = search rules in
    subst (λ h. Transacts (PlacesAs (Some c.args.place.now)) (FailsAs None) (state g.S.Store h) (state g.S.Store c.begin_at.new.conn) (tables_edited []) c.begin_at.result) is
    c.begin_at.ensures.transacts
