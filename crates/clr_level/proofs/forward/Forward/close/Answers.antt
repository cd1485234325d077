use Rattle.std.proofs.Common.{Option, subst, sym}
use Rattle.sqlite.specs.State.{Survives}
use Rattle.clr_journal.specs.declared.line.Carried.{Carried}
use Rattle.clr_level.specs.Crash.{AreFurther}
use Rattle.clr_level.specs.Forward.{HasCome}
use Rattle.clr_level.proofs.Crashes.{left_itself}
use Rattle.clr_level.proofs.Forwarding.{went_on}
use Rattle.clr_level.proofs.Deeds.{goes_itself}
use Rattle.clr_level.proofs.Fronts.{keeps_itself}
use Rattle.clr_level.proofs.forward.Forward.close.Goals as goal

pub returns-in-None-clause-led : goal.returns-in-None-clause-led
returns-in-None-clause-led g c = goes_itself g.K.Commit.kept g.K.Commit.takes g.K.CommitAt.has_place c.args.self.desk

pub returns-in-Some-clause-went : goal.returns-in-Some-clause-went
returns-in-Some-clause-went g c = λ R place lines rest good answered kept come.
    let self = c.args.self in
    let next = c.carry_out.result.1 in
    went_on g.K.Commit.kept g.K.CommitAt.has_place R place lines c.carry_out.result.0 next.desk next.at rest
    (c.carry_out.ensures.went R place lines rest good answered kept
    (subst (λ (one : Option Carried). HasCome g.K.CommitAt.has_place R place lines self.desk.book.register (g.K.Commit.kept self.desk.store) self.at one rest)
    c.in-Some.is come))

-- nothing is done where no command is open
pub returns-in-None-clause-left : goal.returns-in-None-clause-left
returns-in-None-clause-left g c = λ rest kept.
    let self = c.args.self in
    let s = g.K.Commit.kept self.desk.store in
    left_itself s (AreFurther g.K.CommitAt.has_place self.desk.book.register s self.at self.pending rest)

pub returns-in-None-clause-tables : goal.returns-in-None-clause-tables
returns-in-None-clause-tables g c = keeps_itself g.K.Commit.kept c.args.self.desk

pub returns-in-Some-clause-left : goal.returns-in-Some-clause-left
returns-in-Some-clause-left g c = λ rest kept.
    let self = c.args.self in
    let s = g.K.Commit.kept self.desk.store in
    subst
    (λ (one : Option Carried). Survives s (g.K.Commit.kept c.carry_out.result.1.desk.store)
    (AreFurther g.K.CommitAt.has_place self.desk.book.register s self.at one rest))
    (sym c.in-Some.is) (c.carry_out.ensures.left rest kept)
