use Rattle.std.proofs.Common.{◌∷◌}
use Rattle.clr_journal.specs.Line.{entry_of}
use Rattle.clr_level.specs.Crash.{AreFurther}
use Rattle.clr_level.proofs.Crashes.{left_itself}
use Rattle.clr_level.proofs.Forwarding.{carried_kept, went_closed}
use Rattle.clr_level.proofs.Deeds.{goes_itself}
use Rattle.clr_level.proofs.Fronts.{keeps_itself}
use Rattle.clr_level.proofs.forward.Forward.before.Goals as goal

pub returns-in-Carried-clause-went : goal.returns-in-Carried-clause-went
returns-in-Carried-clause-went g c = λ R place lines rest good answered come.
    let next = c.close.result.1 in
    let left = entry_of c.args.line.now ∷ rest in
    went_closed g.K.Commit.kept g.K.CommitAt.has_place R place lines c.close.result.0 next.desk next.at next.pending left c.close.ensures.closed
    (c.close.ensures.went R place lines left good answered (carried_kept c.args.line.now _ rest c.in-Carried.is) come)

pub returns-in-Withdrawn-clause-led : goal.returns-in-Withdrawn-clause-led
returns-in-Withdrawn-clause-led g c = goes_itself g.K.Commit.kept g.K.Commit.takes g.K.CommitAt.has_place c.args.self.desk

pub returns-in-Carried-clause-left : goal.returns-in-Carried-clause-left
returns-in-Carried-clause-left g c = λ rest.
    c.close.ensures.left (entry_of c.args.line.now ∷ rest) (carried_kept c.args.line.now _ rest c.in-Carried.is)

pub returns-in-Withdrawn-clause-left : goal.returns-in-Withdrawn-clause-left
returns-in-Withdrawn-clause-left g c = λ rest.
    let self = c.args.self in
    let s = g.K.Commit.kept self.desk.store in
    left_itself s (AreFurther g.K.CommitAt.has_place self.desk.book.register s self.at self.pending (entry_of c.args.line.now ∷ rest))

pub returns-in-Withdrawn-clause-tables : goal.returns-in-Withdrawn-clause-tables
returns-in-Withdrawn-clause-tables g c = keeps_itself g.K.Commit.kept c.args.self.desk
