use Rattle.std.proofs.Common.{◌≡◌, ◌∙◌, ◌++◌, ap, subst, sym}
use Rattle.clr_journal.specs.Line.{entry_of}
use Rattle.clr_chain.specs.Walking.{bad, holds, seen_step, step_of}
use Rattle.clr_chain.specs.Walking.{Step as Seen}
use Rattle.clr_chain.specs.declared.chain_end.ChainEnd.{ChainEnd}
use Rattle.clr_chain.specs.declared.walk.Step.{Step as SeenStep}
use Rattle.clr_chain.specs.declared.walk.Walk.{Walk}
use Rattle.clr_checking.proofs.Results.{if_err, if_err_both, on_any, on_five, on_ok}
use Rattle.clr_checking.proofs.Checked.{bad_over, line_checked, line_checked_from, line_refused, line_refused_from}
use Rattle.clr_checking.specs.CheckingOn.{IsOfRun}
use Rattle.clr_checking.proofs.checking.Checking.line.Goals as goal

pub returns-in-Holds-clause-went : goal.returns-in-Holds-clause-went
returns-in-Holds-clause-went c =
    let old = c.args.self.now in
    let walk = c.step.new.self in
    let step : (holds (entry_of c.in-Holds.line), walk.end) ≡ step_of old.walk.end c.args.text.now =
    ap (λ (s : SeenStep). (seen_step s, walk.end)) (sym c.in-Holds.is) ∙ c.in_ok-seen.ensures.step in
    on_ok c.next.result (λ goes began first place R texts to.
    line_checked began R first place texts c.args.text.now (entry_of c.in-Holds.line) old c.next.new.self walk step c.step.ensures.id c.next.ensures.walk
    c.next.ensures.begun goes to) c.next.ensures.went

pub returns-in-Holds-clause-went_from : goal.returns-in-Holds-clause-went_from
returns-in-Holds-clause-went_from c =
    let old = c.args.self.now in
    let walk = c.step.new.self in
    let step : (holds (entry_of c.in-Holds.line), walk.end) ≡ step_of old.walk.end c.args.text.now =
    ap (λ (s : SeenStep). (seen_step s, walk.end)) (sym c.in-Holds.is) ∙ c.in_ok-seen.ensures.step in
    on_five c.next.result (λ goes stays waited passed settles copied at first place R texts to.
    line_checked_from copied R at first place texts c.args.text.now (entry_of c.in-Holds.line) old c.next.new.self walk step c.step.ensures.id
    c.next.ensures.walk c.next.ensures.begun goes stays waited passed settles to) c.next.ensures.went c.next.ensures.kept c.next.ensures.waited c.next.ensures.passed
    c.next.ensures.settled

pub returns-in-Holds-clause-refused : goal.returns-in-Holds-clause-refused
returns-in-Holds-clause-refused c =
    let old = c.args.self.now in
    let walk = c.step.new.self in
    let step : (holds (entry_of c.in-Holds.line), walk.end) ≡ step_of old.walk.end c.args.text.now =
    ap (λ (s : SeenStep). (seen_step s, walk.end)) (sym c.in-Holds.is) ∙ c.in_ok-seen.ensures.step in
    if_err c.next.result (λ fault refuses began first place R texts to.
    line_refused began R first place texts c.args.text.now (entry_of c.in-Holds.line) old walk fault step refuses to) c.next.ensures.refused

pub returns-in-Holds-clause-refused_from : goal.returns-in-Holds-clause-refused_from
returns-in-Holds-clause-refused_from c =
    let old = c.args.self.now in
    let walk = c.step.new.self in
    let step : (holds (entry_of c.in-Holds.line), walk.end) ≡ step_of old.walk.end c.args.text.now =
    ap (λ (s : SeenStep). (seen_step s, walk.end)) (sym c.in-Holds.is) ∙ c.in_ok-seen.ensures.step in
    if_err_both c.next.result (λ fault refuses waits copied at first place R texts to.
    line_refused_from copied R at first place texts c.args.text.now (entry_of c.in-Holds.line) old walk fault step refuses waits to)
    c.next.ensures.refused c.next.ensures.refused_from

pub returns-in-Bad-clause-refused : goal.returns-in-Bad-clause-refused
returns-in-Bad-clause-refused c = λ began first place R texts to.
    let old = c.args.self.now in
    let walk = c.step.new.self in
    let step : (bad c.in-Bad.number, walk.end) ≡ step_of old.walk.end c.args.text.now =
    ap (λ (s : SeenStep). (seen_step s, walk.end)) (sym c.in-Bad.is) ∙ c.in_ok-seen.ensures.step in
    bad_over first place texts c.args.text.now to.entries old walk.end c.in-Bad.number step to.over

pub returns-in-Bad-clause-refused_from : goal.returns-in-Bad-clause-refused_from
returns-in-Bad-clause-refused_from c = λ copied at first place R texts to.
    let old = c.args.self.now in
    let walk = c.step.new.self in
    let step : (bad c.in-Bad.number, walk.end) ≡ step_of old.walk.end c.args.text.now =
    ap (λ (s : SeenStep). (seen_step s, walk.end)) (sym c.in-Bad.is) ∙ c.in_ok-seen.ensures.step in
    bad_over first place texts c.args.text.now (to.before ++ to.entries) old walk.end c.in-Bad.number step to.over

pub returns-in-Holds-clause-end : goal.returns-in-Holds-clause-end
returns-in-Holds-clause-end c =
    on_any c.next.result (ap (λ (w : Walk). w.end) c.next.ensures.walk ∙ ap (λ (both : Seen × ChainEnd). both.1) c.in_ok-seen.ensures.step)

pub returns-in-Holds-clause-id : goal.returns-in-Holds-clause-id
returns-in-Holds-clause-id c = ap (λ (w : Walk). w.id) c.next.ensures.walk ∙ c.step.ensures.id

-- the walk itself has come to a bad line
pub returns-in-Bad-clause-bad : goal.returns-in-Bad-clause-bad
returns-in-Bad-clause-bad c n is =
    let old = c.args.self.now in
    let walk = c.step.new.self in
    let step : (bad c.in-Bad.number, walk.end) ≡ step_of old.walk.end c.args.text.now =
    ap (λ (s : SeenStep). (seen_step s, walk.end)) (sym c.in-Bad.is) ∙ c.in_ok-seen.ensures.step in
    sym (ap (λ (both : Seen × ChainEnd). both.0) step) ∙ ap bad (cc is)

pub returns-in-Holds-clause-bad : goal.returns-in-Holds-clause-bad
returns-in-Holds-clause-bad c = if_err c.next.result (λ fault of n is. absurd (subst IsOfRun is of)) c.next.ensures.of_run
