use Rattle.std.proofs.Common.{◌≡◌, ◌∙◌, ◌||◌, map, reverse, rules}
use Rattle.clr_journal.specs.Line.{entry_of}
use Rattle.clr_log.specs.Steps.{amended_by, step_before}
use Rattle.clr_log.proofs.Backwards.{ends, goes_on, is_found}
use Rattle.clr_log.proofs.steps.step_known.Goals as goal

pub returns-in-Some-given : goal.returns-in-Some-given
returns-in-Some-given c =
    let l = c.loop-line in
    c.step_given.ensures ∙ is_found c.args.clearance c.args.number l.withdraws l.amended l.rest.now c.in-Some.older.now c.in-Some.line.now c.in-Some-given.steps.now _ (search rules) (search rules) l.invariant

pub loop-line-preserved : goal.loop-line-preserved
loop-line-preserved c =
    let l = c.loop-line in
    let here = goes_on c.args.clearance c.args.number l.withdraws l.amended l.rest.now c.in-Some.older.now c.in-Some.line.now _ (search rules) (search rules) l.invariant in
    let amended : c.if-amended.amended ≡ (l.amended || amended_by l.withdraws c.args.clearance c.args.number (entry_of c.in-Some.line.now)) = search rules in
    (λ i. step_before c.args.clearance c.args.number (c.is_withdrawn-withdraws.ensures i) (amended i) (reverse (map entry_of c.in-Some.older.now))) ∙ here

pub returns : goal.returns
returns c =
    let l = c.loop-line in
    ends c.args.clearance c.args.number l.withdraws l.amended l.rest.now _ (search rules) l.invariant
