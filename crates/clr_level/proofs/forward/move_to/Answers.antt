use Rattle.std.proofs.Common.{◌∙◌}
use Rattle.clr_desk.specs.Faults.{IsOfKeeper}
use Rattle.clr_level.proofs.Forwarding.{if_err}
use Rattle.clr_level.proofs.Rolling.{move_arrives, move_left, move_rolls, move_stops}
use Rattle.clr_level.proofs.forward.move_to.Goals as goal

pub returns-in-Ok-clause-went : goal.returns-in-Ok-clause-went
returns-in-Ok-clause-went g c = λ R place lines come.
    move_arrives g.K.Commit.kept g.K.CommitAt.has_place c.args.desk c.of-desk.result c.parted-book.result.1 c.move_to-came.new.self c.args.at
    (c.of-desk.ensures.book ∙ c.parted-book.ensures.book) c.parted-book.ensures.kept c.of-desk.ensures.store c.move_to-came.result c.in-Ok.field-0
    c.in-Ok.is c.move_to-came.ensures.commits R place lines come

pub returns-in-Ok-clause-led : goal.returns-in-Ok-clause-led
returns-in-Ok-clause-led g c =
    move_rolls g.K.Commit.kept g.K.CommitAt.has_place c.args.desk c.of-desk.result c.parted-book.result.1 c.move_to-came.new.self c.args.at
    (c.of-desk.ensures.book ∙ c.parted-book.ensures.book) c.parted-book.ensures.kept c.of-desk.ensures.store g.K.Commit.takes
    c.move_to-came.result c.move_to-came.ensures.commits

pub returns-in-Err-clause-went : goal.returns-in-Err-clause-went
returns-in-Err-clause-went g c = λ R place lines come.
    move_stops g.K.Commit.kept g.K.CommitAt.has_place c.args.desk c.of-desk.result c.parted-book.result.1 c.move_to-came.new.self c.args.at
    (c.of-desk.ensures.book ∙ c.parted-book.ensures.book) c.parted-book.ensures.kept c.of-desk.ensures.store c.move_to-came.result c.in-Err.fault
    c.in-Err.is c.move_to-came.ensures.commits R place lines come

pub returns-in-Err-clause-led : goal.returns-in-Err-clause-led
returns-in-Err-clause-led g c =
    move_rolls g.K.Commit.kept g.K.CommitAt.has_place c.args.desk c.of-desk.result c.parted-book.result.1 c.move_to-came.new.self c.args.at
    (c.of-desk.ensures.book ∙ c.parted-book.ensures.book) c.parted-book.ensures.kept c.of-desk.ensures.store g.K.Commit.takes
    c.move_to-came.result c.move_to-came.ensures.commits

pub returns-in-Err-clause-fault : goal.returns-in-Err-clause-fault
returns-in-Err-clause-fault g c = if_err c.move_to-came.result c.in-Err.fault (IsOfKeeper g.K.Commit.fails) c.in-Err.is c.move_to-came.ensures.fault

pub returns-in-Ok-clause-left : goal.returns-in-Ok-clause-left
returns-in-Ok-clause-left g c =
    move_left g.K.Commit.kept g.K.CommitAt.has_place c.args.desk c.of-desk.result c.parted-book.result.1 c.move_to-came.new.self c.args.at
    (c.of-desk.ensures.book ∙ c.parted-book.ensures.book) c.parted-book.ensures.kept c.of-desk.ensures.store c.move_to-came.result
    c.move_to-came.ensures.commits

pub returns-in-Err-clause-left : goal.returns-in-Err-clause-left
returns-in-Err-clause-left g c =
    move_left g.K.Commit.kept g.K.CommitAt.has_place c.args.desk c.of-desk.result c.parted-book.result.1 c.move_to-came.new.self c.args.at
    (c.of-desk.ensures.book ∙ c.parted-book.ensures.book) c.parted-book.ensures.kept c.of-desk.ensures.store c.move_to-came.result
    c.move_to-came.ensures.commits
