use Rattle.std.proofs.Common.{[], Option, refl, subst, sym}
use Rattle.sqlite.specs.State.{Survives}
use Rattle.clr_journal.specs.declared.line.Carried.{Carried}
use Rattle.clr_level.specs.Crash.{AreFurther}
use Rattle.clr_level.specs.Forward.{HasCome}
use Rattle.clr_level.proofs.Rolling.{rolls_by}
use Rattle.clr_level.proofs.forward.Forward.arrive.Goals as goal

pub returns-in-None-clause-went : goal.returns-in-None-clause-went
returns-in-None-clause-went g c = λ R place lines good answered come.
    let self = c.args.self in
    c.move_to.ensures.went R place lines
    (subst (λ (one : Option Carried). HasCome g.K.CommitAt.has_place R place lines self.desk.book.register (g.K.Commit.kept self.desk.store) self.at one [])
    c.in-None.is come)

pub returns-in-Some-clause-went : goal.returns-in-Some-clause-went
returns-in-Some-clause-went g c = λ R place lines good answered come.
    let self = c.args.self in
    c.carry_out-came.ensures.went R place lines [] good answered refl
    (subst (λ (one : Option Carried). HasCome g.K.CommitAt.has_place R place lines self.desk.book.register (g.K.Commit.kept self.desk.store) self.at one [])
    c.in-Some.is come)

pub returns-in-Some-clause-led : goal.returns-in-Some-clause-led
returns-in-Some-clause-led g c =
    rolls_by g.K.Commit.kept g.K.Commit.takes g.K.CommitAt.has_place c.args.self.desk c.carry_out-came.result.1.desk
    c.carry_out-came.ensures.led

pub returns-in-None-clause-left : goal.returns-in-None-clause-left
returns-in-None-clause-left g c =
    let self = c.args.self in
    let s = g.K.Commit.kept self.desk.store in
    subst
    (λ (one : Option Carried). Survives s (g.K.Commit.kept c.move_to.result.1.store)
    (AreFurther g.K.CommitAt.has_place self.desk.book.register s self.at one []))
    (sym c.in-None.is) c.move_to.ensures.left

pub returns-in-Some-clause-left : goal.returns-in-Some-clause-left
returns-in-Some-clause-left g c =
    let self = c.args.self in
    let s = g.K.Commit.kept self.desk.store in
    subst
    (λ (one : Option Carried). Survives s (g.K.Commit.kept c.carry_out-came.result.1.desk.store)
    (AreFurther g.K.CommitAt.has_place self.desk.book.register s self.at one []))
    (sym c.in-Some.is) (c.carry_out-came.ensures.left [] refl)
