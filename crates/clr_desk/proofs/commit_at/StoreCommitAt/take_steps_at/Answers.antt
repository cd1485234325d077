use Rattle.std.proofs.Common.{◌≡◌, Err, rules}
use Rattle.sqlite.specs.Held.{state}
use Rattle.clr_store.specs.StepsTaken.{without_steps}
use Rattle.clr_desk.specs.Faults.{of_store}
use Rattle.clr_desk.proofs.Placed.{not_placed_at, placed_at}
use Rattle.clr_desk.proofs.commit_at.StoreCommitAt.take_steps_at.Goals as goal

pub returns-clause-turns : goal.returns-clause-turns
returns-clause-turns g c = placed_at (state g.S.Store c.args.self.now) (state g.S.Store c.take_steps.new.self) (without_steps c.args.keys.now) c.args.place.now c.in_ok-take_steps.ensures

pub returns-in_err-take_steps-clause-turns : goal.returns-in_err-take_steps-clause-turns
returns-in_err-take_steps-clause-turns g c =
    let reported : c.from_residual.result ≡ Err (of_store c.in_err-take_steps.field-0.0) = search rules in
    not_placed_at (state g.S.Store c.args.self.now) (state g.S.Store c.take_steps.new.self) (without_steps c.args.keys.now) c.args.place.now c.in_err-take_steps.field-0.0
    c.from_residual.result reported c.in_err-take_steps.ensures
