use Rattle.std.proofs.Common.{◌≡◌, ◌∙◌, ap, inl, inr, refl, subst, sym}
use Rattle.std.specs.Prelude.{None, Some}
use Rattle.sqlite.specs.Held.{Held, state}
use Rattle.clr_book.specs.Book.{Shelved}
use Rattle.clr_keeping.specs.TakenUp.{HasPlace, IsGiven, StaysRead, logs}
use Rattle.clr_keeping.specs.TakenUp.IsNotGiven.{unopened, unplaced, without}
use Rattle.clr_keeping.proofs.Keeping.{of_place, of_shut}
use Rattle.clr_keeping.proofs.TakenUp.{given_by, stopped_by}
use Rattle.clr_keeping.proofs.taking_up.logged.Goals as goal

-- it was given the journal at its place
pub returns-in-Ok-taken_up-clause-taken : goal.returns-in-Ok-taken_up-clause-taken
returns-in-Ok-taken_up-clause-taken g c =
    let up = c.in-Ok-taken_up.ensures in
    let by = logs g.R.Journals g.R.Log.Journal g.R.Time.Clock.shows in
    let desk = c.in-Ok-taken_up.desk in
    let given : IsGiven g.S.Store by c.args.path.now c.args.rt.now c.journal.new.self c.args.desk.store c.args.desk.book.register desk.store desk.book.register =
    given_by g.S.Store by c.args.path.now c.args.rt.now c.journal.new.self c.args.desk.store c.in-Ok.desk.store
    c.args.desk.book.register c.in-Ok.desk.book.register (ap (λ (b : Shelved). b.register) c.in-Ok.ensures.book) c.in-Some.place c.in-Ok.ensures.read
    (subst (λ p. HasPlace g.S.Store c.args.desk.store c.in-Ok.desk.store p) c.in-Some.is c.in-Ok.ensures.placed)
    c.in-Ok-journal.opened.journal c.in-Ok-journal.opened.ahead c.time-time.result desk.store desk.book.register
    c.in-Ok-journal.ensures.opens_journal c.time-time.ensures c.in-Ok-journal.ensures.whole up.journal up.clock up.settled up.kept up.fit up.rolled up.level
    up.sound up.left in
    subst (λ (b : Shelved). IsGiven g.S.Store by c.args.path.now c.args.rt.now c.journal.new.self c.args.desk.store c.args.desk.book.register c.uncounted.result.store b.register)
    (sym c.uncounted.ensures.book)
    (subst (λ (k : _). IsGiven g.S.Store by c.args.path.now c.args.rt.now c.journal.new.self c.args.desk.store c.args.desk.book.register k desk.book.register)
    (sym c.uncounted.ensures.store) given)

-- a line stopped it
pub returns-in-Err-taken_up-clause-refused : goal.returns-in-Err-taken_up-clause-refused
returns-in-Err-taken_up-clause-refused g c =
    stopped_by g.S.Store (logs g.R.Journals g.R.Log.Journal g.R.Time.Clock.shows) c.args.path.now c.args.rt.now c.let_journal_go.new.self c.args.desk.store
    c.in-Ok.desk.store c.args.desk.book.register c.in-Ok.desk.book.register (ap (λ (b : Shelved). b.register) c.in-Ok.ensures.book) c.in-Some.place
    c.in-Ok.ensures.read (subst (λ p. HasPlace g.S.Store c.args.desk.store c.in-Ok.desk.store p) c.in-Some.is c.in-Ok.ensures.placed)
    c.in-Ok-journal.opened.journal c.in-Ok-journal.opened.ahead c.journal.new.self c.in-Err-taken_up.journal c.in-Err-taken_up.fault c.in-Err-taken_up.connection
    c.in-Ok-journal.ensures.opens_journal c.in-Err-taken_up.ensures.unwritten c.let_journal_go.ensures c.in-Err-taken_up.ensures.stops

-- the journal was not opened
pub returns-in-Err-journal-clause-refused : goal.returns-in-Err-journal-clause-refused
returns-in-Err-journal-clause-refused g c =
    let same : c.end-in-Err-journal-2.result ≡ c.in-Ok.desk.store = c.end-in-Err-journal-2.ensures.connection ∙ c.end-in-Err-journal.ensures in
    unopened c.in-Some.place
    (subst (λ h. HasPlace g.S.Store c.args.desk.store h (Some c.in-Some.place)) (sym same)
    (subst (λ p. HasPlace g.S.Store c.args.desk.store c.in-Ok.desk.store p) c.in-Some.is c.in-Ok.ensures.placed))
    (subst (λ h. StaysRead (state g.S.Store c.args.desk.store) (state g.S.Store h)) (sym same) c.in-Ok.ensures.read)
    c.in-Err-journal.ensures.fault c.in-Err-journal.ensures.shuts_journal

pub returns-in-Err-journal-clause-fault : goal.returns-in-Err-journal-clause-fault
returns-in-Err-journal-clause-fault g c = of_shut _ c.in-Err-journal.ensures.fault

-- it has none
pub returns-in-None-clause-refused : goal.returns-in-None-clause-refused
returns-in-None-clause-refused g c =
    let same : c.end-in-None.result ≡ c.in-Ok.desk.store = c.end-in-None.ensures.connection ∙ c.end.ensures in
    without
    (subst (λ h. HasPlace g.S.Store c.args.desk.store h None) (sym same)
    (subst (λ p. HasPlace g.S.Store c.args.desk.store c.in-Ok.desk.store p) c.in-None.is c.in-Ok.ensures.placed))
    (subst (λ h. StaysRead (state g.S.Store c.args.desk.store) (state g.S.Store h)) (sym same) c.in-Ok.ensures.read)
    refl refl

-- its place was not read
pub returns-in-Err-clause-refused : goal.returns-in-Err-clause-refused
returns-in-Err-clause-refused g c = unplaced c.in-Err.ensures.lacks c.in-Err.ensures.read_too refl

pub returns-in-Err-clause-fault : goal.returns-in-Err-clause-fault
returns-in-Err-clause-fault g c = of_place g.S.Store c.args.desk.store c.in-Err.fault c.in-Err.connection c.in-Err.ensures.lacks
