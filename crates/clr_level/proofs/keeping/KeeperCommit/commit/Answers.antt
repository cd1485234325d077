use Rattle.std.proofs.Common.{◌≡◌, Err, Ok, refl, rules, subst, sym}
use Rattle.std.specs.Prelude.{⊤}
use Rattle.clr_load.specs.TableEdits.{tables_edited}
use Rattle.clr_store.specs.Transaction.{Transacts}
use Rattle.clr_desk.specs.Commit.{StaysSaved}
use Rattle.clr_level.proofs.Places.{nothing_kept, of_tables}
use Rattle.clr_level.proofs.Taken.{kept_is, unkept_is}
use Rattle.clr_level.proofs.keeping.KeeperCommit.commit.Goals as goal

pub returns-in-Ok-clause-taken : goal.returns-in-Ok-clause-taken
returns-in-Ok-clause-taken g c =
    let noted = c.in_ok-note_durably.ensures in
    kept_is g.K.Commit.takes g.K.Commit.kept g.K.CommitAt.has_place g.C.Clock.shows g.J.Journal.text g.J.Journal.found g.J.Journal.may_leave g.J.Journal.is_usable
    c.args.self.now c.note_durably.new.self _ c.args.login c.args.command.now c.args.reply.now c.args.change.now.edits.items c.requires.accepted
    noted.noted noted.settled noted.durable c.note_durably.ensures.sound c.note_durably.ensures.safe c.note_durably.ensures.withdrawn c.note_durably.ensures.keeper
    (record { journal = refl; clock = refl; at = refl; synced = refl }) refl c.in-Ok.ensures.taken c.in-Ok.ensures.commits

pub returns-in-Err-clause-taken : goal.returns-in-Err-clause-taken
returns-in-Err-clause-taken g c =
    let noted = c.in_ok-note_durably.ensures in
    unkept_is g.K.Commit.takes g.K.Commit.kept g.K.CommitAt.has_place g.C.Clock.shows g.J.Journal.text g.J.Journal.found g.J.Journal.may_leave g.J.Journal.is_usable
    c.args.self.now c.note_durably.new.self _ c.args.login c.args.command.now c.args.reply.now c.in-Err.fault c.args.change.now.edits.items c.requires.accepted
    noted.noted noted.durable c.note_durably.ensures.sound c.note_durably.ensures.safe c.note_durably.ensures.keeper
    (record { journal = refl; clock = refl; at = refl; synced = refl })
    c.left_by-self.ensures c.in-Err.ensures.taken c.in-Err.ensures.commits

pub returns-in-Ok-clause-commits : goal.returns-in-Ok-clause-commits
returns-in-Ok-clause-commits g c =
    let kept = g.K.Commit.kept in
    let new = kept c.commit_at.new.self in
    let turned = tables_edited c.args.change.now.edits.items in
    subst (λ (k : g.row.K.Denot). Transacts {X = Unit {0}} (λ _ _. ⊤) StaysSaved (kept k) new turned (Ok tt)) c.note_durably.ensures.keeper
    (of_tables g.K.CommitAt.has_place (kept c.note_durably.new.self.keeper) new turned c.note_durably.new.self.at (Ok tt) c.in-Ok.ensures.commits)

pub returns-in-Err-clause-commits : goal.returns-in-Err-clause-commits
returns-in-Err-clause-commits g c =
    let kept = g.K.Commit.kept in
    let new = kept c.commit_at.new.self in
    let turned = tables_edited c.args.change.now.edits.items in
    subst (λ (k : g.row.K.Denot). Transacts {X = Unit {0}} (λ _ _. ⊤) StaysSaved (kept k) new turned (Err c.in-Err.fault)) c.note_durably.ensures.keeper
    (of_tables g.K.CommitAt.has_place (kept c.note_durably.new.self.keeper) new turned c.note_durably.new.self.at (Err c.in-Err.fault) c.in-Err.ensures.commits)

-- where no line was noted, nothing is kept
pub returns-in_err-note_durably-clause-commits : goal.returns-in_err-note_durably-clause-commits
returns-in_err-note_durably-clause-commits g c =
    let kept = g.K.Commit.kept in
    let was = c.args.self.now.keeper in
    let turned = tables_edited c.args.change.now.edits.items in
    let fault = c.in_err-note_durably.field-0.0 in
    let reported : c.from_residual.result ≡ Err fault = search rules in
    subst (λ (k : g.row.K.Denot). Transacts (λ _ _. ⊤) StaysSaved (kept was) (kept k) turned c.from_residual.result) (sym c.note_durably.ensures.keeper)
    (nothing_kept (kept was) turned fault c.from_residual.result reported)
