use Rattle.std.proofs.Common.{map, rules}
use Rattle.clr_journal.specs.Line.{entry_of}
use Rattle.clr_level.proofs.Tried.{comes_next, none_next, passed_at, passed_one}
use Rattle.clr_level.proofs.trying.next_due.Goals as goal

pub returns-in-Some-due-clause-next : goal.returns-in-Some-due-clause-next
returns-in-Some-due-clause-next c =
    comes_next (map entry_of c.args.lines.now) c.in-Some.line.now (map entry_of c.in-Some.rest.now) c.in-Some-due.one.now
    (passed_at (map entry_of c.args.lines.now) c.loop-line.left.now c.in-Some.line.now c.in-Some.rest.now (search rules) c.loop-line.invariant)
    (search rules)

pub loop-line-preserved : goal.loop-line-preserved
loop-line-preserved c =
    passed_one _ c.in-Some.line.now (map entry_of c.in-Some.rest.now)
    (passed_at _ c.loop-line.left.now c.in-Some.line.now c.in-Some.rest.now (search rules) c.loop-line.invariant) (search rules)

pub returns-clause-none : goal.returns-clause-none
returns-clause-none c = none_next (map entry_of c.args.lines.now) c.loop-line.left.now c.in_default.ensures.cases c.loop-line.invariant
