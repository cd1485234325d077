use Rattle.std.proofs.Common.{◌∙◌, rules, subst, sym}
use Rattle.clr_checking.specs.Checking.{IsRefused, IsRefusedFrom}
use Rattle.clr_checking.specs.declared.fault.CheckFault.{CheckFault}
use Rattle.clr_checking.proofs.Checked.{all_checked, all_checked_from, end_else, end_else_from, end_missed, end_missed_from, end_sought, end_unmet, end_unmet_from}
use Rattle.clr_checking.proofs.Results.{passed_on}
use Rattle.clr_checking.proofs.checking.Checking.ended.Goals as goal

pub returns-in-None-clause-yes : goal.returns-in-None-clause-yes
returns-in-None-clause-yes c = λ began first place R texts to.
    all_checked began R first place texts c.args.self.now c.close.new.self c.close.ensures.closed (search rules)
    (λ begun entries over. c.in_ok-close.ensures.went began first place R entries begun over) to

pub returns-in-None-clause-yes_from : goal.returns-in-None-clause-yes_from
returns-in-None-clause-yes_from c = λ copied at first place R texts to.
    let begun = sym c.close.ensures.from ∙ c.in-None.is in
    all_checked_from copied R at first place texts c.args.self.now c.close.new.self c.close.ensures.closed (search rules)
    begun (λ entries over. c.in_ok-close.ensures.went copied at place R entries begun over) to

-- the place was not met
pub returns-then-not-self-clause-refused : goal.returns-then-not-self-clause-refused
returns-then-not-self-clause-refused c = λ began first place R texts to.
    end_unmet began R first place texts c.args.self.now c.close.new.self c.close.ensures.closed c.in_ok-settled.ensures.none c.close.ensures.stays (search rules)
    (λ begun entries over. c.in_ok-close.ensures.went began first place R entries begun over) to

pub returns-then-not-self-clause-refused_from : goal.returns-then-not-self-clause-refused_from
returns-then-not-self-clause-refused_from c = λ copied at first place R texts to.
    end_unmet_from copied R at first place texts c.args.self.now c.close.new.self c.close.ensures.closed c.in_ok-settled.ensures.none c.close.ensures.stays (search rules)
    (λ begun entries over. c.in_ok-close.ensures.went copied at place R entries begun over) to

-- that of the copy is still sought
pub returns-in-Some-clause-refused_from : goal.returns-in-Some-clause-refused_from
returns-in-Some-clause-refused_from c = λ copied at first place R texts to.
    end_sought copied R at first place texts c.args.self.now (search rules) c.in_ok-settled.ensures.none to

-- the last deed
pub returns-in_err-close-clause-refused : goal.returns-in_err-close-clause-refused
returns-in_err-close-clause-refused c =
    passed_on _ _ _ c.from_residual-in_err-close.ensures.1 (λ began first place R texts to.
    end_else began R first place texts c.args.self.now _ (λ begun entries over. c.in_err-close.ensures.refused began first place R entries begun over) to)

pub returns-in_err-close-clause-refused_from : goal.returns-in_err-close-clause-refused_from
returns-in_err-close-clause-refused_from c =
    passed_on _ _ _ c.from_residual-in_err-close.ensures.1 (λ copied at first place R texts to.
    end_else_from copied R at first place texts c.args.self.now _ c.in_err-close.ensures.some
    (λ begun entries over. c.in_err-close.ensures.refused copied at place R entries begun over) to)

-- the sum of a place is another
pub returns-in_err-settled-clause-refused : goal.returns-in_err-settled-clause-refused
returns-in_err-settled-clause-refused c =
    let (number, some, is) = c.in_err-settled.ensures.some in
    passed_on _ _ _ c.from_residual.ensures.1 (λ began first place R texts to.
    subst (λ (f : CheckFault). IsRefused began first texts place R f) (sym is) (end_missed began R first place texts c.args.self.now number some to))

pub returns-in_err-settled-clause-refused_from : goal.returns-in_err-settled-clause-refused_from
returns-in_err-settled-clause-refused_from c =
    let (number, some, is) = c.in_err-settled.ensures.some in
    passed_on _ _ _ c.from_residual.ensures.1 (λ copied at first place R texts to.
    subst (λ (f : CheckFault). IsRefusedFrom copied at first texts place R f) (sym is) (end_missed_from copied R at first place texts c.args.self.now number some to))
