use Rattle.std.proofs.Common.{[], Err, ◌∙◌, ap, map, subst, sym}
use Rattle.sqlite.specs.State.{Survives}
use Rattle.clr_book.specs.Book.{Shelved}
use Rattle.clr_journal.specs.Journals.{carried_out, withdraws}
use Rattle.clr_journal.specs.Line.{entry_of}
use Rattle.clr_level.specs.Crash.{AreRolled}
use Rattle.clr_level.specs.Forward.{CanBeOpened, IsOfForward}
use Rattle.clr_level.specs.declared.keeper.Keeper.{Keeper}
use Rattle.clr_level.proofs.Forwarding.{arrives_on, if_err, still_good, stops_there}
use Rattle.clr_level.proofs.Openings.{opened_level, placed_as, rolled}
use Rattle.clr_level.proofs.opening.with_journal.Goals as goal

pub returns-in-Ok-clause-level : goal.returns-in-Ok-clause-level
returns-in-Ok-clause-level g c first start good can =
    let kept = g.K.Commit.kept in
    let has_place = g.K.CommitAt.has_place in
    let R = c.args.desk.book.register in
    let lines = map entry_of c.args.lines.items in
    let desk = c.roll_forward-came.result.1 in
    let at = c.roll_forward-came.result.2 in
    let store = c.of.ensures.store in
    let come = (arrives_on kept has_place R c.args.place lines c.roll_forward-came.result.0 c.in-Ok.field-0 desk at [] c.in-Ok.is
    (c.roll_forward-came.ensures.went (still_good first R (carried_out (CanBeOpened.level can).had) good (CanBeOpened.level can).run)
    (ap withdraws (sym can.more_is) ∙ (CanBeOpened.level can).kept) can.shallow can.placed)).0 in
    opened_level has_place first R start c.args.place lines kept g.J.Journal.text (kept c.args.desk.store) c.args.journal desk.book.register desk.store at
    c.of.result.store c.of.result.book.register can come (ap (λ (b : Shelved). b.register) (c.of.ensures.book ∙ c.parted-book.ensures.book))
    (ap (λ (k : Keeper g.row.K.Denot g.row.J.Denot g.row.C.Denot). k.keeper) store ∙ c.new-keeper.ensures.keeper ∙ c.parted-book.ensures.kept)
    (ap (λ (k : Keeper g.row.K.Denot g.row.J.Denot g.row.C.Denot). k.journal) store ∙ c.new-keeper.ensures.journal)
    (ap (λ (k : Keeper g.row.K.Denot g.row.J.Denot g.row.C.Denot). k.at) store ∙ c.new-keeper.ensures.at)
    (ap (λ (k : Keeper g.row.K.Denot g.row.J.Denot g.row.C.Denot). k.last) store ∙ c.new-keeper.ensures.last)

pub returns-in-Ok-clause-rolled : goal.returns-in-Ok-clause-rolled
returns-in-Ok-clause-rolled g c = λ good begins shallow placed.
    let kept = g.K.Commit.kept in
    let has_place = g.K.CommitAt.has_place in
    let R = c.args.desk.book.register in
    let lines = map entry_of c.args.lines.items in
    let desk = c.roll_forward-came.result.1 in
    let at = c.roll_forward-came.result.2 in
    let come = (arrives_on kept has_place R c.args.place lines c.roll_forward-came.result.0 c.in-Ok.field-0 desk at [] c.in-Ok.is
    (c.roll_forward-came.ensures.went good begins shallow placed)).0 in
    rolled has_place R c.args.place lines desk.book.register c.of.result.book.register (kept desk.store) at come
    (ap (λ (b : Shelved). b.register) (c.of.ensures.book ∙ c.parted-book.ensures.book))

-- the keeper has the place that was come to
pub returns-in-Ok-clause-placed : goal.returns-in-Ok-clause-placed
returns-in-Ok-clause-placed g c = λ good begins shallow placed.
    let kept = g.K.Commit.kept in
    let has_place = g.K.CommitAt.has_place in
    let desk = c.roll_forward-came.result.1 in
    let at = c.roll_forward-came.result.2 in
    let store = c.of.ensures.store in
    let here = (arrives_on kept has_place c.args.desk.book.register c.args.place (map entry_of c.args.lines.items) c.roll_forward-came.result.0
    c.in-Ok.field-0 desk at [] c.in-Ok.is (c.roll_forward-came.ensures.went good begins shallow placed)).1 in
    placed_as has_place kept desk.store c.of.result.store.keeper at c.of.result.store.at
    (ap (λ (k : Keeper g.row.K.Denot g.row.J.Denot g.row.C.Denot). k.keeper) store ∙ c.new-keeper.ensures.keeper ∙ c.parted-book.ensures.kept)
    (ap (λ (k : Keeper g.row.K.Denot g.row.J.Denot g.row.C.Denot). k.at) store ∙ c.new-keeper.ensures.at) here

pub returns-in-Ok-clause-left : goal.returns-in-Ok-clause-left
returns-in-Ok-clause-left g c =
    let kept = g.K.Commit.kept in
    let s = kept c.args.desk.store in
    subst
    (λ (k : g.row.K.Denot). Survives s (kept k)
    (AreRolled g.K.CommitAt.has_place s c.args.desk.book.register c.args.place (map entry_of c.args.lines.items)))
    (sym (ap (λ (k : Keeper g.row.K.Denot g.row.J.Denot g.row.C.Denot). k.keeper) c.of.ensures.store ∙ c.new-keeper.ensures.keeper ∙ c.parted-book.ensures.kept))
    c.roll_forward-came.ensures.left

pub returns-in-Ok-clause-led : goal.returns-in-Ok-clause-led
returns-in-Ok-clause-led g c =
    let store = c.of.ensures.store in
    record {
      before = c.roll_forward-came.result.1;
      led = c.roll_forward-came.ensures.led;
      book = c.of.ensures.book ∙ c.parted-book.ensures.book;
      keeper = ap (λ (k : Keeper g.row.K.Denot g.row.J.Denot g.row.C.Denot). k.keeper) store ∙ c.new-keeper.ensures.keeper ∙ c.parted-book.ensures.kept;
    }

pub returns-in-Err-clause-stops : goal.returns-in-Err-clause-stops
returns-in-Err-clause-stops g c = λ good begins shallow at.
    stops_there g.K.Commit.kept g.K.CommitAt.has_place c.args.desk.book.register c.args.place (map entry_of c.args.lines.items) c.roll_forward-came.result.0
    c.in-Err.fault c.roll_forward-came.result.1 c.roll_forward-came.result.2 [] c.in-Err.is
    (c.roll_forward-came.ensures.went good begins shallow at)

pub returns-in-Err-clause-left_too : goal.returns-in-Err-clause-left_too
returns-in-Err-clause-left_too g c = c.roll_forward-came.ensures.left

pub returns-in-Err-clause-unchanged : goal.returns-in-Err-clause-unchanged
returns-in-Err-clause-unchanged g c = λ n is. c.roll_forward-came.ensures.unchanged n (c.in-Err.is ∙ ap Err is)

pub returns-in-Err-clause-fault : goal.returns-in-Err-clause-fault
returns-in-Err-clause-fault g c =
    if_err c.roll_forward-came.result.0 c.in-Err.fault (IsOfForward g.K.Commit.fails (map entry_of c.args.lines.items)) c.in-Err.is c.roll_forward-came.ensures.fault
