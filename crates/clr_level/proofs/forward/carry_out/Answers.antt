use Rattle.std.proofs.Common.{◌≡◌, None, Some, subst, sym}
use Rattle.sqlite.proofs.StateLemmas.{survives_weaker}
use Rattle.clr_changes.specs.Deeds.{after_deed, deed_of}
use Rattle.clr_desk.specs.Faults.{IsOfKeeper}
use Rattle.clr_rules.specs.declared.place.Place.{Place}
use Rattle.clr_level.specs.Carrying.{AreDoneAt}
use Rattle.clr_level.specs.Crash.{AreFurther, KeepsTables}
use Rattle.clr_level.specs.Forward.{HasCome}
use Rattle.clr_level.specs.Placing.{ComesTo, IsAt, StaysShown}
use Rattle.clr_level.proofs.Forwarding.{answered_on, if_err, on_err, on_ok, stayed, stopped}
use Rattle.clr_level.proofs.Fronts.{carried_further}
use Rattle.clr_level.proofs.forward.carry_out.Goals as goal

pub returns-in-Ok-clause-went : goal.returns-in-Ok-clause-went
returns-in-Ok-clause-went g c = λ R place lines rest good answered kept come.
    let old = c.args.desk in
    let new = c.carry_deed-came.result.1 in
    let came = c.carry_deed-came.result.0 in
    let s = g.K.Commit.kept old.store in
    let t = g.K.Commit.kept new.store in
    let carried = c.carry_deed-came.ensures.carried in
    subst (λ (p : Place). HasCome g.K.CommitAt.has_place R place lines new.book.register t p None rest × IsAt g.K.CommitAt.has_place t p)
    (sym c.carry_deed-came.ensures.place)
    (answered_on g.K.CommitAt.has_place R place lines old.book.register new.book.register s t c.args.at c.args.one rest good answered come kept
    (λ taken. on_ok came c.in-Ok.field-0 (new.book.register ≡ after_deed old.book.register (deed_of c.args.one.deed)) c.in-Ok.is (carried.register taken))
    (λ taken. on_ok came c.in-Ok.field-0 (ComesTo g.K.CommitAt.has_place s t c.args.at) c.in-Ok.is (carried.placed taken)))

-- a crash leaves what was left, or the deed and its place
pub returns-in-Ok-clause-left : goal.returns-in-Ok-clause-left
returns-in-Ok-clause-left g c = λ rest kept.
    let old = c.args.desk in
    let s = g.K.Commit.kept old.store in
    survives_weaker s (g.K.Commit.kept c.carry_deed-came.result.1.store)
    (AreDoneAt g.K.CommitAt.has_place s.now old.book.register (deed_of c.args.one.deed) c.args.at)
    (AreFurther g.K.CommitAt.has_place old.book.register s c.args.at (Some c.args.one) rest)
    (λ clean trees left. carried_further g.K.CommitAt.has_place old.book.register s c.args.at c.args.one rest trees kept left)
    c.carry_deed-came.ensures.carried.crash

pub returns-in-Ok-clause-tables : goal.returns-in-Ok-clause-tables
returns-in-Ok-clause-tables g c =
    on_ok c.carry_deed-came.result.0 c.in-Ok.field-0 (KeepsTables g.K.Commit.kept c.args.desk c.carry_deed-came.result.1) c.in-Ok.is
    c.carry_deed-came.ensures.carried.tables

pub returns-in-Ok-clause-led : goal.returns-in-Ok-clause-led
returns-in-Ok-clause-led g c = c.carry_deed-came.ensures.carried.led

pub returns-clause-went : goal.returns-clause-went
returns-clause-went g c = λ R place lines rest good answered kept come.
    let old = c.args.desk in
    let new = c.carry_deed-came.result.1 in
    let came = c.carry_deed-came.result.0 in
    let s = g.K.Commit.kept old.store in
    let t = g.K.Commit.kept new.store in
    stopped g.K.CommitAt.has_place R place lines new.book.register t c.args.at (Some c.args.one) rest
    (stayed g.K.CommitAt.has_place R place lines old.book.register new.book.register s t c.args.at (Some c.args.one) rest come
    (on_err came c.in-Err.fault (new.book.register ≡ old.book.register) c.in-Err.is c.carry_deed-came.ensures.carried.unchanged)
    (on_err came c.in-Err.fault (StaysShown s t) c.in-Err.is c.carry_deed-came.ensures.carried.stays))

pub returns-clause-left : goal.returns-clause-left
returns-clause-left g c = λ rest kept.
    let old = c.args.desk in
    let s = g.K.Commit.kept old.store in
    survives_weaker s (g.K.Commit.kept c.carry_deed-came.result.1.store)
    (AreDoneAt g.K.CommitAt.has_place s.now old.book.register (deed_of c.args.one.deed) c.args.at)
    (AreFurther g.K.CommitAt.has_place old.book.register s c.args.at (Some c.args.one) rest)
    (λ clean trees left. carried_further g.K.CommitAt.has_place old.book.register s c.args.at c.args.one rest trees kept left)
    c.carry_deed-came.ensures.carried.crash

pub returns-clause-led : goal.returns-clause-led
returns-clause-led g c = c.carry_deed-came.ensures.carried.led

pub returns-clause-fault : goal.returns-clause-fault
returns-clause-fault g c =
    if_err c.carry_deed-came.result.0 c.in-Err.fault (IsOfKeeper g.K.Commit.fails) c.in-Err.is c.carry_deed-came.ensures.carried.fault
