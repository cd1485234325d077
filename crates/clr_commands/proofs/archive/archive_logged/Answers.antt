use Rattle.std.proofs.Common.{◌≡◌, IfErr, ap, inl, inr, refl, subst, sym}
use Rattle.clr_book.specs.Book.{Shelved}
use Rattle.clr_rules.specs.Register.{Register}
use Rattle.clr_stream.specs.Streams.{WentOut}
use Rattle.clr_changes.specs.Deeds.{archive as of_archive}
use Rattle.clr_level.specs.Journaling.{FailsToo}
use Rattle.clr_level.specs.declared.keeper.Keeper.{Keeper}
use Rattle.clr_edge.specs.Visit.{Done}
use Rattle.clr_commands.specs.Archive.{IsUnsent, TakesOut}
use Rattle.clr_commands.specs.ArchiveText.{archive_text}
use Rattle.clr_commands.specs.DeedLines.{IsJournaled}
use Rattle.clr_commands.specs.Faults.{IsOfDesk}
use Rattle.clr_commands.proofs.Taken.{done_of-fault, line_reported, taken_with}
use Rattle.clr_commands.proofs.archive.archive_logged.Goals as goal

pub renew-came-requires : goal.renew-came-requires
renew-came-requires g c = refl

-- all went out, and the steps were taken
pub returns-in-Ok-clause-archived : goal.returns-in-Ok-clause-archived
returns-in-Ok-clause-archived g c =
    let old = g.W.CountedWrite.stream c.args.output.now in
    let new = g.W.CountedWrite.stream c.send.new.output in
    let came = c.renew-came.result.0 in
    let register : c.book.result.now.register ≡ c.args.desk.book.register = ap (λ (b : Shelved). b.register) c.book.ensures in
    inl (
      subst (λ (Q : Register). WentOut old new (archive_text c.args.before Q)) register c.in-Ok.ensures.sent,
      subst (λ (told : Done). TakesOut (λ (it : Keeper g.row.K.Denot g.row.J.Denot g.row.C.Denot). g.K.Commit.kept it.keeper) c.args.before c.args.desk.book.register told c.args.desk.store c.renew-came.result.1.store)
          (sym c.done_of.ensures)
          (taken_with g.K.Commit.kept g.K.CommitAt.has_place g.K.Commit.fails g.C.Clock.shows g.J.Journal.text g.J.Journal.found g.J.Journal.may_leave
          g.J.Journal.is_usable c.args.before c.args.desk c.renew-came.result.1 came c.requires c.renew-came.ensures.renewed),
      subst (λ (told : Done). IfErr told (IsOfDesk (FailsToo g.K.Commit.fails))) (sym c.done_of.ensures)
          (done_of-fault (FailsToo g.K.Commit.fails) came c.renew-came.ensures.renewed.fault),
    )

-- its line was noted
pub returns-in-Ok-clause-noted : goal.returns-in-Ok-clause-noted
returns-in-Ok-clause-noted g c =
    subst (λ (told : Done). IsJournaled g.K.Commit.kept g.K.CommitAt.has_place g.K.Commit.fails g.C.Clock.shows g.J.Journal c.args.desk (of_archive c.args.before) told
    c.renew-came.result.1) (sym c.done_of.ensures)
    (inr (line_reported g.K.Commit.kept g.K.CommitAt.has_place g.K.Commit.fails g.C.Clock.shows g.J.Journal c.args.desk c.renew-came.result.1 (of_archive c.args.before)
    c.renew-came.result.0 c.renew-came.ensures.renewed))

pub returns-in-Ok-clause-level : goal.returns-in-Ok-clause-level
returns-in-Ok-clause-level g c = c.renew-came.ensures.level

pub returns-in-Ok-clause-sound : goal.returns-in-Ok-clause-sound
returns-in-Ok-clause-sound g c = c.renew-came.ensures.renewed.journals.sound

pub returns-in-Ok-clause-safe : goal.returns-in-Ok-clause-safe
returns-in-Ok-clause-safe g c = c.renew-came.ensures.safe

-- not all went out, and nothing was done
pub returns-in-Err-clause-archived : goal.returns-in-Err-clause-archived
returns-in-Err-clause-archived g c =
    let old = g.W.CountedWrite.stream c.args.output.now in
    let new = g.W.CountedWrite.stream c.send.new.output in
    let register : c.book.result.now.register ≡ c.args.desk.book.register = ap (λ (b : Shelved). b.register) c.book.ensures in
    inr (refl, subst (λ (Q : Register). IsUnsent old new (archive_text c.args.before Q) c.in-Err.fault) register c.in-Err.ensures.unsent)

pub returns-in-Err-clause-noted : goal.returns-in-Err-clause-noted
returns-in-Err-clause-noted g c = inl refl

pub returns-in-Err-clause-level : goal.returns-in-Err-clause-level
returns-in-Err-clause-level g c first start good level = level

pub returns-in-Err-clause-sound : goal.returns-in-Err-clause-sound
returns-in-Err-clause-sound g c sound = sound

pub returns-in-Err-clause-safe : goal.returns-in-Err-clause-safe
returns-in-Err-clause-safe g c first start good level safe = safe
