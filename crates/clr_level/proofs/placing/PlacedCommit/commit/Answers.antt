use Rattle.std.proofs.Common.{◌≡◌, Err, Ok, refl, rules, subst, sym}
use Rattle.std.specs.Prelude.{⊤}
use Rattle.sqlite.proofs.StateLemmas.{survives_weaker}
use Rattle.clr_load.specs.TableEdits.{tables_edited}
use Rattle.clr_store.specs.Transaction.{AreTurned, Transacts}
use Rattle.clr_desk.specs.Commit.{StaysSaved}
use Rattle.clr_desk.specs.Placing.{SetsPlace}
use Rattle.clr_level.specs.Placing.{ArePlacedAt}
use Rattle.clr_level.proofs.Carrying.{kept_carries}
use Rattle.clr_level.proofs.Places.{of_tables}
use Rattle.clr_level.proofs.placing.PlacedCommit.commit.Goals as goal

pub returns-clause-taken : goal.returns-clause-taken
returns-clause-taken g c =
    kept_carries g.K.Commit.takes g.K.Commit.kept g.K.CommitAt.has_place c.args.self.now _ c.args.login c.args.command.now c.args.reply.now
    c.args.change.now.edits.items (Ok tt) c.in_ok-commit_at.ensures.commits c.in_ok-commit_at.ensures.taken refl

pub returns-in_err-commit_at-clause-taken : goal.returns-in_err-commit_at-clause-taken
returns-in_err-commit_at-clause-taken g c =
    let old = g.K.Commit.kept c.args.self.now.keeper in
    record {
      taken = search rules;
      same = search rules;
      placed = search rules;
      stays = search rules;
      crash = survives_weaker old (g.K.Commit.kept c.commit_at.new.self)
          (AreTurned (SetsPlace g.K.CommitAt.has_place c.args.self.now.place) (tables_edited c.args.change.now.edits.items) old.now)
          (ArePlacedAt g.K.CommitAt.has_place old.now c.args.self.now.place) (λ clean trees edited t has. (edited t has).1)
          c.in_err-commit_at.ensures.commits.crash;
    }

pub returns-clause-commits : goal.returns-clause-commits
returns-clause-commits g c =
    of_tables g.K.CommitAt.has_place (g.K.Commit.kept c.args.self.now.keeper) (g.K.Commit.kept c.commit_at.new.self) (tables_edited c.args.change.now.edits.items)
    c.args.self.now.place (Ok tt) c.in_ok-commit_at.ensures.commits

pub returns-in_err-commit_at-clause-commits : goal.returns-in_err-commit_at-clause-commits
returns-in_err-commit_at-clause-commits g c =
    let old = g.K.Commit.kept c.args.self.now.keeper in
    let new = g.K.Commit.kept c.commit_at.new.self in
    let turned = tables_edited c.args.change.now.edits.items in
    let fault = c.in_err-commit_at.field-0.0 in
    let reported : c.from_residual.result ≡ Err fault = search rules in
    subst (Transacts (λ _ _. ⊤) StaysSaved old new turned) (sym reported)
    (of_tables g.K.CommitAt.has_place old new turned c.args.self.now.place (Err fault) c.in_err-commit_at.ensures.commits)
