use Rattle.std.proofs.Common.{◌≡◌, Err, rules}
use Rattle.sqlite.specs.Held.{state}
use Rattle.clr_load.specs.TableEdits.{tables_edited}
use Rattle.clr_desk.specs.Faults.{of_store}
use Rattle.clr_desk.proofs.Placed.{kept, not_kept}
use Rattle.clr_desk.proofs.commit.StoreCommit.commit.Goals as goal

pub returns-clause-commits : goal.returns-clause-commits
returns-clause-commits g c = kept (state g.S.Store c.args.self.now) (state g.S.Store c.commit.new.self) (tables_edited c.args.change.now.edits.items) c.in_ok-commit.ensures

pub returns-in_err-commit-clause-commits : goal.returns-in_err-commit-clause-commits
returns-in_err-commit-clause-commits g c =
    let reported : c.from_residual.result ≡ Err (of_store c.in_err-commit.field-0.0) = search rules in
    not_kept (state g.S.Store c.args.self.now) (state g.S.Store c.commit.new.self) (tables_edited c.args.change.now.edits.items) c.in_err-commit.field-0.0 c.from_residual.result reported
    c.in_err-commit.ensures
