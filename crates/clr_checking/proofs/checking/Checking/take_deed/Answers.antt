use Rattle.std.proofs.Common.{◌≡◌, ◌∙◌, ℕ, false, rules, subst, sym, true}
use Rattle.clr_checking.proofs.Results.{if_err, on_both, passed_on}
use Rattle.clr_checking.specs.CheckingOn.{ComparesElse}
use Rattle.clr_checking.proofs.Refused.{refused_else, refused_tables, sum_else}
use Rattle.clr_checking.proofs.Steps.{MetAt, UnmetAt, accepted_on, found_at, line_of, refused_on}
use Rattle.clr_checking.proofs.checking.Checking.take_deed.Goals as goal

pub returns-then-is_accepted-clause-went : goal.returns-then-is_accepted-clause-went
returns-then-is_accepted-clause-went c = λ began first place R entries is over.
    accepted_on began R first place c.args.self.now c.take_accepted.new.self c.args.one entries c.requires.closed c.requires.settled c.take_accepted.ensures.last
    c.take_accepted.ensures.others (found_at c.args.one.receipt.number c.args.self.now _ c.take_accepted.ensures.expected c.take_accepted.ensures.missed) is over

pub returns-clause-went : goal.returns-clause-went
returns-clause-went c =
    let sure : c.is_expected.result ≡ true = search rules in
    on_both c.compare_at.result (λ now unmet began first place R entries is over.
    refused_on began R first place c.args.self.now c.compare_at.new.self c.args.one entries c.requires.closed c.requires.settled (sym c.is_accepted.ensures ∙ c.if-is_accepted.false)
    c.in_ok-refused.ensures.taken (c.is_expected.ensures.sum sure) c.requires.begun
    (subst (λ (n : ℕ). MetAt n c.args.self.now c.compare_at.new.self.is_met) c.in_ok-refused.ensures.number now)
    (subst (λ (n : ℕ). UnmetAt n c.args.self.now c.compare_at.new.self.is_met) c.in_ok-refused.ensures.number unmet)
    c.compare_at.ensures.stays c.compare_at.ensures.others is over)
    c.compare_at.ensures.met c.compare_at.ensures.unmet

pub returns-clause-refused : goal.returns-clause-refused
returns-clause-refused c =
    let sure : c.is_expected.result ≡ true = search rules in
    if_err c.compare_at.result (λ fault else began first place R entries is over.
    refused_tables began R first place c.args.self.now c.args.one entries fault c.requires.closed c.requires.settled (sym c.is_accepted.ensures ∙ c.if-is_accepted.false)
    c.in_ok-refused.ensures.taken (c.is_expected.ensures.sum sure)
    (subst (λ (n : ℕ). ComparesElse c.args.self.now n fault) c.in_ok-refused.ensures.number else) is over) c.compare_at.ensures.fault

-- another sum at the register's place
pub returns-then-not-is_expected-clause-refused : goal.returns-then-not-is_expected-clause-refused
returns-then-not-is_expected-clause-refused c = λ began first place R entries is over.
    let no : c.is_expected.result ≡ false = search rules in
    let why = c.is_expected.ensures.other no in
    sum_else began R first place c.args.self.now (line_of c.args.one) entries why.0 why.1 is over.of

-- another reply
pub returns-in_err-refused-clause-refused : goal.returns-in_err-refused-clause-refused
returns-in_err-refused-clause-refused c =
    passed_on _ _ _ c.from_residual.ensures.1 (λ began first place R entries is over.
    refused_else began R first place c.args.self.now c.args.one entries _ c.requires.closed c.requires.settled c.in_err-refused.ensures.whole c.in_err-refused.ensures.fault over)
