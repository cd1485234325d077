use Rattle.std.proofs.Common.{◌≡◌, option_copied, rules, subst}
use Rattle.sqlite.specs.Held.{state}
use Rattle.clr_load.specs.TableEdits.{tables_edited}
use Rattle.clr_store.specs.Transaction.{FailsAs, PlacesAs, Transacts}
use Rattle.clr_store.proofs.store.Store.commit.Goals as goal

pub returns : goal.returns
returns g c =
    let place = option_copied c.args.place in
    let is : c.self.inside.connection ≡ c.args.self.now = search rules in
    subst (λ h. Transacts (PlacesAs place) (FailsAs place) (state g.S.Store h) (state g.S.Store c.commit_change.new.conn) (tables_edited c.args.change.now.edits.items) c.commit_change.result) is
    c.commit_change.ensures.transacts
