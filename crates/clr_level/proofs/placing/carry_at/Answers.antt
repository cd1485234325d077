use Rattle.std.proofs.Common.{◌∙◌, ap}
use Rattle.clr_level.specs.declared.placing.Placed.{Placed}
use Rattle.clr_level.proofs.Carrying.{leads_below, left_below, same_place, stays_below, tables_below}
use Rattle.clr_level.proofs.placing.carry_at.Goals as goal

pub returns-clause-stays : goal.returns-clause-stays
returns-clause-stays g c =
    let keeper = λ (k : Placed g.row.K.Denot). k.keeper in
    stays_below g.K.Commit.takes g.K.Commit.kept g.K.CommitAt.has_place c.args.desk c.of.result c.of-desk.result c.one-came.new.self c.args.command
    c.one-came.result (ap keeper c.of-desk.ensures.store ∙ c.parted-book.ensures.kept) (c.of.ensures.store ∙ ap keeper c.parted-book-2.ensures.kept)
    c.one-came.ensures.taken

pub returns-clause-tables : goal.returns-clause-tables
returns-clause-tables g c =
    let keeper = λ (k : Placed g.row.K.Denot). k.keeper in
    tables_below g.K.Commit.takes g.K.Commit.kept g.K.CommitAt.has_place g.K.Commit.fails c.args.desk c.of.result c.of-desk.result c.one-came.new.self
    c.args.command c.one-came.result (c.of-desk.ensures.book ∙ c.parted-book.ensures.book) (ap keeper c.of-desk.ensures.store ∙ c.parted-book.ensures.kept)
    (c.of.ensures.book ∙ c.parted-book-2.ensures.book) (c.of.ensures.store ∙ ap keeper c.parted-book-2.ensures.kept) c.one-came.ensures.carried

pub returns-clause-left : goal.returns-clause-left
returns-clause-left g c =
    let keeper = λ (k : Placed g.row.K.Denot). k.keeper in
    left_below g.K.Commit.takes g.K.Commit.kept g.K.CommitAt.has_place g.K.Commit.fails c.args.desk c.of.result c.of-desk.result c.one-came.new.self
    c.args.command c.one-came.result c.args.place (c.of-desk.ensures.book ∙ c.parted-book.ensures.book)
    (ap keeper c.of-desk.ensures.store ∙ c.parted-book.ensures.kept) (ap (λ (k : Placed g.row.K.Denot). k.place) c.of-desk.ensures.store)
    (c.of.ensures.store ∙ ap keeper c.parted-book-2.ensures.kept) c.one-came.ensures.carried c.one-came.ensures.taken

pub returns-clause-led : goal.returns-clause-led
returns-clause-led g c =
    let keeper = λ (k : Placed g.row.K.Denot). k.keeper in
    leads_below g.K.Commit.takes g.K.Commit.kept g.K.CommitAt.has_place g.K.Commit.fails c.args.desk c.of.result c.of-desk.result
    c.one-came.new.self c.args.command c.one-came.result (c.of-desk.ensures.book ∙ c.parted-book.ensures.book)
    (ap keeper c.of-desk.ensures.store ∙ c.parted-book.ensures.kept) (c.of.ensures.book ∙ c.parted-book-2.ensures.book)
    (c.of.ensures.store ∙ ap keeper c.parted-book-2.ensures.kept) c.one-came.ensures.carried c.one-came.ensures.taken

pub returns-clause-place : goal.returns-clause-place
returns-clause-place g c =
    let place = λ (k : Placed g.row.K.Denot). k.place in
    ap place c.parted-book-2.ensures.kept
    ∙ same_place g.K.Commit.takes g.K.Commit.kept g.K.CommitAt.has_place c.of-desk.result.book.register c.of-desk.result.store c.one-came.new.self.store
    c.args.command c.one-came.result c.one-came.ensures.taken
    ∙ ap place c.of-desk.ensures.store
