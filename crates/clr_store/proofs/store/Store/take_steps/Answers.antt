use Rattle.std.proofs.Common.{◌≡◌, option_copied, rules, subst}
use Rattle.sqlite.specs.Held.{state}
use Rattle.clr_store.specs.StepsTaken.{without_steps}
use Rattle.clr_store.specs.Transaction.{FailsAs, PlacesAs, Transacts}
use Rattle.clr_store.proofs.store.Store.take_steps.Goals as goal

pub returns : goal.returns
returns g c =
    let place = option_copied c.args.place in
    let is : c.self.inside.connection ≡ c.args.self.now = search rules in
    subst (λ h. Transacts (PlacesAs place) (FailsAs place) (state g.S.Store h) (state g.S.Store c.take_steps.new.conn) (without_steps c.args.keys.now) c.take_steps.result) is
    c.take_steps.ensures.transacts
