use Rattle.std.proofs.Common.{◌∙◌, sym}
use Rattle.clr_checking.proofs.Results.{if_err, on_any, on_ok}
use Rattle.clr_checking.proofs.checking.Checking.next.Goals as goal

pub returns-in-Some-clause-went : goal.returns-in-Some-clause-went
returns-in-Some-clause-went c = on_any c.wait.result (λ began first place R entries none is over. absurd (cc (sym none ∙ c.in-Some.is)))

pub returns-in-Some-clause-kept : goal.returns-in-Some-clause-kept
returns-in-Some-clause-kept c = on_any c.wait.result (λ began first place R none over. absurd (cc (sym none ∙ c.in-Some.is)))

pub returns-in-None-clause-went : goal.returns-in-None-clause-went
returns-in-None-clause-went c = on_ok c.run.result (λ went began first place R entries none is over. went began first place R entries is over) c.run.ensures.went

pub returns-in-None-clause-kept : goal.returns-in-None-clause-kept
returns-in-None-clause-kept c = on_ok c.run.result (λ kept began first place R none over. kept began first place R over) c.run.ensures.kept

pub returns-in-None-clause-waited : goal.returns-in-None-clause-waited
returns-in-None-clause-waited c = on_any c.run.result (λ copied at first place R before is w. absurd (cc (sym w.from ∙ c.in-None.is)))

pub returns-in-Some-clause-refused : goal.returns-in-Some-clause-refused
returns-in-Some-clause-refused c =
    if_err c.wait.result (λ fault refuses began first place R entries none is runs. absurd (cc (sym none ∙ c.in-Some.is))) c.wait.ensures.refused

pub returns-in-None-clause-refused : goal.returns-in-None-clause-refused
returns-in-None-clause-refused c =
    if_err c.run.result (λ fault refuses began first place R entries none is runs. refuses began first place R entries is runs) c.run.ensures.refused

pub returns-in-None-clause-refused_from : goal.returns-in-None-clause-refused_from
returns-in-None-clause-refused_from c =
    if_err c.run.result (λ fault refuses copied at first place R before is w. absurd (cc (sym w.from ∙ c.in-None.is))) c.run.ensures.refused

pub returns-in-None-clause-passed : goal.returns-in-None-clause-passed
returns-in-None-clause-passed c = on_any c.run.result (λ at some settled. absurd (cc (sym (c.run.ensures.begun c.in-None.is) ∙ some)))

pub returns-in-None-clause-settled : goal.returns-in-None-clause-settled
returns-in-None-clause-settled c = c.run.ensures.settled
