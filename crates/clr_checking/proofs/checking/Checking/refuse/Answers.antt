use Rattle.std.proofs.Common.{subst}
use Rattle.serde_json.specs.View.{view}
use Rattle.clr_changes.specs.Deeds.{deed_of}
use Rattle.clr_checking.specs.Brief.{DecidesDeed}
use Rattle.clr_checking.proofs.checking.Checking.refuse.Goals as goal

-- it is due, or may be in brief
pub returns-then-is-clause-taken : goal.returns-then-is-clause-taken
returns-then-is-clause-taken c =
    subst (DecidesDeed c.args.self.now.desk.book.register (deed_of c.args.one.deed) (view c.args.one.reply)) c.if-is.true c.in-Ok.ensures
