use Rattle.std.proofs.Common.{◌≡◌, ◌∙◌, Err}
use Rattle.clr_changes.specs.Deeds.{deed_of}
use Rattle.clr_level.specs.Journaling.{IsDeedNoted, IsDeedUnwritten, IsDurable, IsOfJournal}
use Rattle.clr_level.specs.declared.last.Last.TheVariants.{Settled}
use Rattle.clr_level.proofs.Forwarding.{if_err, on_ok}
use Rattle.clr_level.proofs.Renewals.{HasDurableLine, IsNotNoted, between, not_noted, noted_carried, renewals_keep_level, renewals_keep_safe}
use Rattle.clr_level.proofs.renewing.renew.Goals as goal

-- its line is durable, and then it is carried out
pub returns-in-Ok-clause-renewed : goal.returns-in-Ok-clause-renewed
returns-in-Ok-clause-renewed g c =
    let shows = g.C.Clock.shows in
    let text = g.J.Journal.text in
    let deed = deed_of c.args.deed in
    let was = c.parted-book.result.1 in
    let now = c.note_deed-noted.new.self in
    let came = c.note_deed-noted.result in
    let said = c.note_deed-noted.ensures in
    let line : HasDurableLine shows text g.J.Journal.found g.J.Journal.may_leave was deed now = record {
      keeper = said.keeper;
      noted = on_ok came c.in-Ok.field-0 (IsDeedNoted shows text was deed now) c.in-Ok.is said.noted;
      settled = on_ok came c.in-Ok.field-0 (now.last ≡ Settled) c.in-Ok.is said.settled;
      durable = on_ok came c.in-Ok.field-0 (IsDurable text g.J.Journal.may_leave now.journal) c.in-Ok.is said.durable;
      sound = said.sound;
      safe = said.safe;
      withdrawn = said.withdrawn;
    } in
    noted_carried g.K.Commit.kept g.K.Commit.takes g.K.CommitAt.has_place g.K.Commit.fails shows text g.J.Journal.found g.J.Journal.may_leave
    g.J.Journal.is_usable c.args.desk c.of-desk.result c.carry_noted.result.1 deed c.requires (c.of-desk.ensures.book ∙ c.parted-book.ensures.book)
    (between (λ a b. HasDurableLine shows text g.J.Journal.found g.J.Journal.may_leave a deed b) was now c.args.desk.store c.of-desk.result.store
    c.parted-book.ensures.kept c.of-desk.ensures.store line) c.carry_noted.result.0 c.carry_noted.ensures

pub returns-in-Ok-clause-level : goal.returns-in-Ok-clause-level
returns-in-Ok-clause-level g c =
    renewals_keep_level g.K.Commit.kept g.K.CommitAt.has_place g.K.Commit.fails g.C.Clock.shows g.J.Journal.text g.J.Journal.found g.J.Journal.may_leave
    g.J.Journal.is_usable c.args.desk c.carry_noted.result.1 (deed_of c.args.deed) c.requires c.carry_noted.result.0 (returns-in-Ok-clause-renewed g c)

pub returns-in-Ok-clause-safe : goal.returns-in-Ok-clause-safe
returns-in-Ok-clause-safe g c =
    renewals_keep_safe g.K.Commit.kept g.K.CommitAt.has_place g.K.Commit.fails g.C.Clock.shows g.J.Journal.text g.J.Journal.found g.J.Journal.may_leave
    g.J.Journal.is_usable c.args.desk c.carry_noted.result.1 (deed_of c.args.deed) c.requires c.carry_noted.result.0 (returns-in-Ok-clause-renewed g c)

-- or it is not
pub returns-in-Err-clause-renewed : goal.returns-in-Err-clause-renewed
returns-in-Err-clause-renewed g c =
    let shows = g.C.Clock.shows in
    let text = g.J.Journal.text in
    let deed = deed_of c.args.deed in
    let was = c.parted-book.result.1 in
    let now = c.note_deed-noted.new.self in
    let came = c.note_deed-noted.result in
    let said = c.note_deed-noted.ensures in
    let line : IsNotNoted shows text g.J.Journal.found g.J.Journal.may_leave g.J.Journal.is_usable was deed c.in-Err.fault now = record {
      keeper = said.keeper;
      unwritten =
          if_err came c.in-Err.fault (λ fault. IsDeedUnwritten shows text g.J.Journal.found g.J.Journal.may_leave was deed fault now) c.in-Err.is said.unwritten;
      cause = said.cause;
      sound = said.sound;
      safe = said.safe;
      withdrawn = said.withdrawn;
    } in
    not_noted g.K.Commit.kept g.K.CommitAt.has_place g.K.Commit.fails shows text g.J.Journal.found g.J.Journal.may_leave g.J.Journal.is_usable c.args.desk c.of-desk.result deed c.in-Err.fault
    (c.of-desk.ensures.book ∙ c.parted-book.ensures.book)
    (between (λ a b. IsNotNoted shows text g.J.Journal.found g.J.Journal.may_leave g.J.Journal.is_usable a deed c.in-Err.fault b) was now c.args.desk.store c.of-desk.result.store
    c.parted-book.ensures.kept c.of-desk.ensures.store line) (if_err came c.in-Err.fault IsOfJournal c.in-Err.is said.fault)

pub returns-in-Err-clause-level : goal.returns-in-Err-clause-level
returns-in-Err-clause-level g c =
    renewals_keep_level g.K.Commit.kept g.K.CommitAt.has_place g.K.Commit.fails g.C.Clock.shows g.J.Journal.text g.J.Journal.found g.J.Journal.may_leave
    g.J.Journal.is_usable c.args.desk c.of-desk.result (deed_of c.args.deed) c.requires (Err c.in-Err.fault) (returns-in-Err-clause-renewed g c)

pub returns-in-Err-clause-safe : goal.returns-in-Err-clause-safe
returns-in-Err-clause-safe g c =
    renewals_keep_safe g.K.Commit.kept g.K.CommitAt.has_place g.K.Commit.fails g.C.Clock.shows g.J.Journal.text g.J.Journal.found g.J.Journal.may_leave
    g.J.Journal.is_usable c.args.desk c.of-desk.result (deed_of c.args.deed) c.requires (Err c.in-Err.fault) (returns-in-Err-clause-renewed g c)
