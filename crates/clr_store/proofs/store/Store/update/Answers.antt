use Rattle.std.proofs.Common.{◌≡◌, option_copied, rules, subst}
use Rattle.sqlite.specs.Held.{state}
use Rattle.clr_store.specs.Renewed.{tables_renewed}
use Rattle.clr_store.specs.Transaction.{FailsAs, PlacesAs, Transacts}
use Rattle.clr_store.proofs.store.Store.update.Goals as goal

pub returns : goal.returns
returns g c =
    let place = option_copied c.args.place in
    let is : c.self.inside.connection ≡ c.args.self.now = search rules in
    subst (λ h. Transacts (PlacesAs place) (FailsAs place) (state g.S.Store h) (state g.S.Store c.renew.new.conn) (tables_renewed c.args.network.now c.args.staff.now c.args.states.now) c.renew.result) is
    c.renew.ensures.transacts
