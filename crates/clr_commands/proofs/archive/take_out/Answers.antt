use Rattle.std.proofs.Common.{IfErr, subst, sym}
use Rattle.sqlite.specs.Held.{state}
use Rattle.clr_desk.specs.Faults.{FailsAsStore}
use Rattle.clr_edge.specs.Visit.{Done}
use Rattle.clr_commands.specs.Archive.{TakesOut}
use Rattle.clr_commands.specs.Faults.{IsOfDesk}
use Rattle.clr_commands.proofs.Taken.{done_of-fault, taken_out}
use Rattle.clr_commands.proofs.archive.take_out.Goals as goal

pub returns-clause-taken : goal.returns-clause-taken
returns-clause-taken g c =
    subst (λ (told : Done). TakesOut (state g.S.Store) c.args.before c.args.desk.book.register told c.args.desk.store c.archive-came.result.1) (sym c.done_of.ensures)
    (taken_out (state g.S.Store) c.args.before c.args.desk.book.register c.args.desk.store c.archive-came.result.1 c.archive-came.result.0 c.archive-came.ensures)

pub returns-clause-fault : goal.returns-clause-fault
returns-clause-fault g c =
    subst (λ (told : Done). IfErr told (IsOfDesk FailsAsStore)) (sym c.done_of.ensures) (done_of-fault FailsAsStore c.archive-came.result.0 c.archive-came.ensures.fault)
