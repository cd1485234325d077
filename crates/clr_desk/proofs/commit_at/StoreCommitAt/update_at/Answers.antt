use Rattle.std.proofs.Common.{◌≡◌, Err, rules}
use Rattle.sqlite.specs.Held.{state}
use Rattle.clr_store.specs.Renewed.{tables_renewed}
use Rattle.clr_desk.specs.Faults.{of_store}
use Rattle.clr_desk.proofs.Placed.{not_placed_at, placed_at}
use Rattle.clr_desk.proofs.commit_at.StoreCommitAt.update_at.Goals as goal

pub returns-clause-turns : goal.returns-clause-turns
returns-clause-turns g c = placed_at (state g.S.Store c.args.self.now) (state g.S.Store c.update.new.self) (tables_renewed c.args.network.now c.args.staff.now c.args.states.now) c.args.place.now c.in_ok-update.ensures

pub returns-in_err-update-clause-turns : goal.returns-in_err-update-clause-turns
returns-in_err-update-clause-turns g c =
    let reported : c.from_residual.result ≡ Err (of_store c.in_err-update.field-0.0) = search rules in
    not_placed_at (state g.S.Store c.args.self.now) (state g.S.Store c.update.new.self) (tables_renewed c.args.network.now c.args.staff.now c.args.states.now) c.args.place.now c.in_err-update.field-0.0
    c.from_residual.result reported c.in_err-update.ensures
