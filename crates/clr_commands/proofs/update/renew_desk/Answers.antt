use Rattle.std.proofs.Common.{◌≡◌, Bool, ap, inl, refl, subst, sym}
use Rattle.clr_book.specs.Book.{Shelved}
use Rattle.clr_changes.specs.Shown.{as_update}
use Rattle.clr_level.specs.Journaling.{FailsToo}
use Rattle.clr_level.specs.declared.keeper.Keeper.{Keeper}
use Rattle.clr_commands.specs.Update.{IsDone, NotesUpdate}
use Rattle.clr_commands.proofs.Updating.{levels_alike, tried_told}
use Rattle.clr_commands.proofs.update.renew_desk.Goals as goal

-- in a dry run nothing is written, and no line is noted
pub returns-then-dry_run-clause-reports : goal.returns-then-dry_run-clause-reports
returns-then-dry_run-clause-reports g c =
    let register : c.book.result.now.register ≡ c.args.desk.book.register = ap (λ (b : Shelved). b.register) c.book.ensures in
    tried_told (FailsToo g.K.Commit.fails) c.args.desk.book.register c.book.result.now.register (as_update c.args.update) c.try_update.result register c.try_update.ensures

pub returns-then-dry_run-clause-done : goal.returns-then-dry_run-clause-done
returns-then-dry_run-clause-done g c =
    subst (λ (dry_run : Bool). IsDone (λ (it : Keeper g.row.K.Denot g.row.J.Denot g.row.C.Denot). g.K.Commit.kept it.keeper) dry_run c.args.desk.book.register (as_update c.args.update)
    c.try_update.result c.args.desk.store c.args.desk.store) (sym c.if-dry_run.true) refl

pub returns-then-dry_run-clause-noted : goal.returns-then-dry_run-clause-noted
returns-then-dry_run-clause-noted g c =
    subst (λ (dry_run : Bool). NotesUpdate g.K.Commit.kept g.K.CommitAt.has_place g.K.Commit.fails g.C.Clock.shows g.J.Journal dry_run (as_update c.args.update)
    c.try_update.result c.args.desk c.args.desk) (sym c.if-dry_run.true) refl

pub returns-then-dry_run-clause-said : goal.returns-then-dry_run-clause-said
returns-then-dry_run-clause-said g c = inl refl

pub returns-then-dry_run-clause-level : goal.returns-then-dry_run-clause-level
returns-then-dry_run-clause-level g c = levels_alike g.K.Commit.kept g.K.CommitAt.has_place g.J.Journal.text c.args.desk

pub returns-then-dry_run-clause-sound : goal.returns-then-dry_run-clause-sound
returns-then-dry_run-clause-sound g c sound = sound

pub returns-then-dry_run-clause-safe : goal.returns-then-dry_run-clause-safe
returns-then-dry_run-clause-safe g c first start good level safe = safe

-- otherwise it is renewed
pub returns-else-dry_run-clause-reports : goal.returns-else-dry_run-clause-reports
returns-else-dry_run-clause-reports g c = c.renew_unless.ensures.renewed.reports

pub returns-else-dry_run-clause-done : goal.returns-else-dry_run-clause-done
returns-else-dry_run-clause-done g c =
    subst (λ (dry_run : Bool). IsDone (λ (it : Keeper g.row.K.Denot g.row.J.Denot g.row.C.Denot). g.K.Commit.kept it.keeper) dry_run c.args.desk.book.register (as_update c.args.update)
    c.renew_unless.result.0 c.args.desk.store c.renew_unless.result.1.store) (sym c.if-dry_run.false) c.renew_unless.ensures.renewed.is_done

pub returns-else-dry_run-clause-noted : goal.returns-else-dry_run-clause-noted
returns-else-dry_run-clause-noted g c =
    subst (λ (dry_run : Bool). NotesUpdate g.K.Commit.kept g.K.CommitAt.has_place g.K.Commit.fails g.C.Clock.shows g.J.Journal dry_run (as_update c.args.update)
    c.renew_unless.result.0 c.args.desk c.renew_unless.result.1) (sym c.if-dry_run.false) c.renew_unless.ensures.renewed.noted

pub returns-else-dry_run-clause-said : goal.returns-else-dry_run-clause-said
returns-else-dry_run-clause-said g c = c.renew_unless.ensures.renewed.said
