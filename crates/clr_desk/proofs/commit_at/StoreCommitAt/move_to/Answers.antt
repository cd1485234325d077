use Rattle.std.proofs.Common.{◌≡◌, Err, List, Ok, rules, subst}
use Rattle.sqlite.specs.Held.{state}
use Rattle.clr_load.specs.TableEdits.{tables_edited}
use Rattle.clr_rules.specs.declared.change.Edit.{Edit}
use Rattle.clr_store.specs.Transaction.{Transacts}
use Rattle.clr_desk.specs.Faults.{of_store}
use Rattle.clr_desk.specs.Placing.{SetsPlace, StaysOpen}
use Rattle.clr_desk.proofs.Placed.{has_store_place, not_placed_at, placed_at}
use Rattle.clr_desk.proofs.commit_at.StoreCommitAt.move_to.Goals as goal

pub returns-clause-commits : goal.returns-clause-commits
returns-clause-commits g c =
    let old = state g.S.Store c.args.self.now in
    let new = state g.S.Store c.commit.new.self in
    subst (λ (edits : List Edit). Transacts {X = Unit {0}} (SetsPlace has_store_place c.args.place.now) StaysOpen old new (tables_edited edits) (Ok tt)) c.new.ensures.items
    (placed_at old new (tables_edited c.new.result.items) c.args.place.now c.in_ok-commit.ensures)

pub returns-in_err-commit-clause-commits : goal.returns-in_err-commit-clause-commits
returns-in_err-commit-clause-commits g c =
    let old = state g.S.Store c.args.self.now in
    let new = state g.S.Store c.commit.new.self in
    let reported : c.from_residual.result ≡ Err (of_store c.in_err-commit.field-0.0) = search rules in
    subst (λ (edits : List Edit). Transacts (SetsPlace has_store_place c.args.place.now) StaysOpen old new (tables_edited edits) c.from_residual.result) c.new.ensures.items
    (not_placed_at old new (tables_edited c.new.result.items) c.args.place.now c.in_err-commit.field-0.0 c.from_residual.result reported c.in_err-commit.ensures)
