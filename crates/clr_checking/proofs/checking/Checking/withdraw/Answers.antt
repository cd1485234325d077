use Rattle.std.proofs.Common.{◌≡◌, IsSome, None, false, rules, true}
use Rattle.clr_journal.specs.Line.{withdrawn}
use Rattle.clr_checking.proofs.Refused.{sum_else, withdrawn_else, withdrawn_tables}
use Rattle.clr_checking.proofs.Results.{if_err, on_three}
use Rattle.clr_checking.proofs.Steps.{withdrawn_runs}
use Rattle.clr_checking.proofs.checking.Checking.withdraw.Goals as goal

pub returns-clause-went : goal.returns-clause-went
returns-clause-went c =
    let some : IsSome c.args.self.now.last = search rules in
    let sure : c.is_expected.result ≡ true = search rules in
    on_three c.compare_at.result (λ now unmet same began first place R entries is runs.
    withdrawn_runs began R first place c.args.self.now c.compare_at.new.self c.args.number entries some c.requires.ready.accepted c.requires.begun
    (c.is_expected.ensures.sum sure) same now unmet c.compare_at.ensures.stays c.compare_at.ensures.others is runs)
    c.compare_at.ensures.met c.compare_at.ensures.unmet c.compare_at.ensures.same

-- other tables
pub returns-clause-refused : goal.returns-clause-refused
returns-clause-refused c =
    let some : IsSome c.args.self.now.last = search rules in
    let sure : c.is_expected.result ≡ true = search rules in
    if_err c.compare_at.result (λ fault else began first place R entries is runs.
    withdrawn_tables began R first place c.args.self.now c.args.number entries fault some c.requires.ready.accepted (c.is_expected.ensures.sum sure) else is runs)
    c.compare_at.ensures.fault

-- another sum at the register's place
pub returns-then-not-is_expected-clause-refused : goal.returns-then-not-is_expected-clause-refused
returns-then-not-is_expected-clause-refused c = λ began first place R entries is runs.
    let no : c.is_expected.result ≡ false = search rules in
    let why = c.is_expected.ensures.other no in
    sum_else began R first place c.args.self.now (withdrawn c.args.number) entries why.0 why.1 is runs.over.of

-- no deed is open
pub returns-then-is_none-clause-refused : goal.returns-then-is_none-clause-refused
returns-then-is_none-clause-refused c = λ began first place R entries is runs.
    let closed : c.args.self.now.last ≡ None = search rules in
    withdrawn_else began R first place c.args.self.now c.args.number entries closed is runs
