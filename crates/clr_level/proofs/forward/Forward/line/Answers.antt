use Rattle.sqlite.specs.State.{Survives}
use Rattle.clr_desk.specs.declared.desk.Desk.{Desk}
use Rattle.clr_level.specs.Crash.{AreFurther, KeepsTables}
use Rattle.clr_journal.specs.Line.{entry_of}
use Rattle.clr_level.specs.Forward.{open_after}
use Rattle.clr_level.proofs.Forwarding.{closed_again, goes_on, none_has, of_more, on_ok, stops_on}
use Rattle.clr_level.proofs.Fronts.{whatever_came}
use Rattle.std.proofs.Common.{◌≡◌, [], ◌∷◌, subst, sym}
use Rattle.clr_level.proofs.forward.Forward.line.Goals as goal

pub returns-in-Err-clause-went : goal.returns-in-Err-clause-went
returns-in-Err-clause-went g c = λ R place lines rest good answered come.
    let next = c.before-came.result.1 in
    stops_on g.K.Commit.kept g.K.CommitAt.has_place R place lines c.before-came.result.0 c.in-Err.fault next.desk next.at next.pending
    (entry_of c.args.line ∷ rest) c.in-Err.is (c.before-came.ensures.went R place lines rest good answered come)

pub returns-clause-went : goal.returns-clause-went
returns-clause-went g c = λ R place lines rest good answered come.
    let next = c.before-came.result.1 in
    c.past.ensures.went R place lines rest
    (closed_again c.args.line c.args.self.pending next.pending
    (on_ok c.before-came.result.0 c.in_default.field-0 (next.pending ≡ open_after c.args.line c.args.self.pending) c.in_default.is c.before-came.ensures.closed))
    (goes_on g.K.Commit.kept g.K.CommitAt.has_place R place lines c.before-came.result.0 c.in_default.field-0 next.desk next.at next.pending
    (entry_of c.args.line ∷ rest) c.in_default.is (c.before-came.ensures.went R place lines rest good answered come))

pub returns-in-Err-clause-fault : goal.returns-in-Err-clause-fault
returns-in-Err-clause-fault g c =
    let here = entry_of c.args.line ∷ [] in
    of_more g.K.Commit.fails [] here c.before-came.result.0 c.in-Err.fault c.in-Err.is (none_has here) c.before-came.ensures.fault

-- going past a line does nothing to the desk
pub returns-clause-left : goal.returns-clause-left
returns-clause-left g c = λ rest.
    let self = c.args.self in
    let s = g.K.Commit.kept self.desk.store in
    subst
    (λ (d : Desk g.row.K.Denot). Survives s (g.K.Commit.kept d.store)
    (AreFurther g.K.CommitAt.has_place self.desk.book.register s self.at self.pending (entry_of c.args.line ∷ rest)))
    (sym c.past.ensures.desk) (c.before-came.ensures.left rest)

pub returns-clause-tables : goal.returns-clause-tables
returns-clause-tables g c =
    let kept = g.K.Commit.kept in
    let self = c.args.self in
    let now = c.before-came.result.1.desk in
    whatever_came c.past.result.0 (KeepsTables kept self.desk c.past.result.1.desk)
    (subst (λ (d : Desk g.row.K.Denot). KeepsTables kept self.desk d) (sym c.past.ensures.desk)
    (on_ok c.before-came.result.0 c.in_default.field-0 (KeepsTables kept self.desk now) c.in_default.is c.before-came.ensures.tables))

pub returns-in-Err-clause-left : goal.returns-in-Err-clause-left
returns-in-Err-clause-left g c = c.before-came.ensures.left
