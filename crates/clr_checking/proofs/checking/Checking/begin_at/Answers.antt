use Rattle.std.proofs.Common.{◌≡◌, ◌∙◌, [], ap, false, rules, subst, sym, true}
use Rattle.clr_checking.specs.Checking.{RefusesFrom, RefusesRun}
use Rattle.clr_checking.specs.declared.fault.CheckFault.{CheckFault}
use Rattle.clr_checking.specs.declared.checking.Checking.{Checking}
use Rattle.clr_checking.proofs.Results.{if_err, on_any, on_both, on_ok}
use Rattle.clr_checking.proofs.Coming.{comes, comes_missed, copy_missed, ran_begun, ran_from, ran_missed, still_waits}
use Rattle.clr_checking.proofs.Refused.{begun_sum_else, begun_tables, coming_sum, coming_tables, compares_settle, copy_sum_else, none_coming, shut_settles}
use Rattle.clr_checking.proofs.checking.Checking.begin_at.Goals as goal

pub returns-then-is_some-clause-waited : goal.returns-then-is_some-clause-waited
returns-then-is_some-clause-waited c = λ copied at first place R before it w.
    let came : c.come_to.result ≡ true = search rules in
    still_waits copied R at first place c.args.number c.args.self.now c.come_to.new.self before c.come_to.ensures.others (search rules)
    (c.come_to.ensures.waited came at w.from) w

pub returns-then-is_some-clause-passed : goal.returns-then-is_some-clause-passed
returns-then-is_some-clause-passed c =
    let came : c.come_to.result ≡ true = search rules in
    λ at some settled. c.come_to.ensures.passed came at some

pub returns-clause-went : goal.returns-clause-went
returns-clause-went c =
    let sure : c.is_expected.result ≡ true = search rules in
    on_both c.compare_at.result (λ now unmet began first place R it none over.
    ran_begun began R first place c.args.number c.args.self.now c.come_to.new.self c.compare_at.new.self c.come_to.ensures.others (c.come_to.ensures.begun none)
    (c.is_expected.ensures.sum sure) c.compare_at.ensures.others now unmet c.compare_at.ensures.stays it over) c.compare_at.ensures.met c.compare_at.ensures.unmet

pub returns-clause-waited : goal.returns-clause-waited
returns-clause-waited c =
    let came : c.come_to.result ≡ true = search rules in
    let sure : c.is_expected.result ≡ true = search rules in
    on_both c.compare_at.result (λ now unmet copied at first place R before it w.
    comes copied R at first place c.args.number c.args.self.now c.come_to.new.self c.compare_at.new.self before c.come_to.ensures.others c.requires.settled (search rules)
    (c.come_to.ensures.waited came at w.from) (c.is_expected.ensures.sum sure) c.compare_at.ensures.others now unmet c.compare_at.ensures.stays it w)
    c.compare_at.ensures.met c.compare_at.ensures.unmet

pub returns-clause-passed : goal.returns-clause-passed
returns-clause-passed c =
    let came : c.come_to.result ≡ true = search rules in
    let from : c.compare_at.new.self.from ≡ c.come_to.new.self.from = ap (λ (x : Checking). x.from) c.compare_at.ensures.others in
    on_any c.compare_at.result (λ at some settled. c.come_to.ensures.passed came at (sym from ∙ some))

-- another sum at the place of the copy
pub returns-then-not-come_to-clause-waited : goal.returns-then-not-come_to-clause-waited
returns-then-not-come_to-clause-waited c =
    let no : c.come_to.result ≡ false = search rules in
    on_ok c.miss.result (λ missed copied at first place R before it w.
    let why = c.come_to.ensures.other no at w.from in
    copy_missed copied R at first place c.args.number c.args.self.now c.come_to.new.self c.miss.new.self before c.come_to.ensures.others (c.come_to.ensures.stays no)
    why.0 why.1 c.miss.ensures.others missed.1 it w) c.miss.ensures.missed

pub returns-then-not-come_to-clause-went : goal.returns-then-not-come_to-clause-went
returns-then-not-come_to-clause-went c =
    let no : c.come_to.result ≡ false = search rules in
    on_any c.miss.result (λ began first place R it none over. absurd (none_coming c.args.self.now c.come_to.result c.come_to.ensures.some no none))

pub returns-then-not-come_to-clause-passed : goal.returns-then-not-come_to-clause-passed
returns-then-not-come_to-clause-passed c = on_ok c.miss.result (λ missed at some settled. absurd (cc (sym settled ∙ missed.1))) c.miss.ensures.missed

pub returns-then-not-come_to-clause-refused : goal.returns-then-not-come_to-clause-refused
returns-then-not-come_to-clause-refused c =
    let no : c.come_to.result ≡ false = search rules in
    if_err c.miss.result (λ fault is began first place R it none over. absurd (none_coming c.args.self.now c.come_to.result c.come_to.ensures.some no none))
    c.miss.ensures.fault

pub returns-then-not-come_to-clause-refused_from : goal.returns-then-not-come_to-clause-refused_from
returns-then-not-come_to-clause-refused_from c =
    let no : c.come_to.result ≡ false = search rules in
    if_err c.miss.result (λ fault is copied at first place R before it w.
    let why = c.come_to.ensures.other no at w.from in
    subst (λ (f : CheckFault). RefusesFrom copied at first before [] place R f) (sym is.0)
    (copy_sum_else copied R at first place c.args.self.now c.args.number before why.0 why.1 it w)) c.miss.ensures.fault

pub returns-then-not-come_to-clause-shut : goal.returns-then-not-come_to-clause-shut
returns-then-not-come_to-clause-shut c =
    if_err c.miss.result (λ fault is. shut_settles (record { last = c.args.number; is_open = c.args.is_open }) fault is.1) c.miss.ensures.fault

-- or at that of the register
pub returns-then-not-is_expected-clause-went : goal.returns-then-not-is_expected-clause-went
returns-then-not-is_expected-clause-went c =
    let no : c.is_expected.result ≡ false = search rules in
    let why = c.is_expected.ensures.other no in
    on_ok c.miss-then-not-is_expected.result (λ missed began first place R it none over.
    ran_missed began R first place c.args.number c.args.self.now c.come_to.new.self c.miss-then-not-is_expected.new.self c.come_to.ensures.others why.0 why.1 c.miss-then-not-is_expected.ensures.others missed.1
    it over) c.miss-then-not-is_expected.ensures.missed

pub returns-then-not-is_expected-clause-waited : goal.returns-then-not-is_expected-clause-waited
returns-then-not-is_expected-clause-waited c =
    let came : c.come_to.result ≡ true = search rules in
    let no : c.is_expected.result ≡ false = search rules in
    let why = c.is_expected.ensures.other no in
    on_ok c.miss-then-not-is_expected.result (λ missed copied at first place R before it w.
    comes_missed copied R at first place c.args.number c.args.self.now c.come_to.new.self c.miss-then-not-is_expected.new.self before c.come_to.ensures.others c.requires.settled (search rules)
    (c.come_to.ensures.waited came at w.from) why.0 why.1 c.miss-then-not-is_expected.ensures.others missed.1 it w) c.miss-then-not-is_expected.ensures.missed

pub returns-then-not-is_expected-clause-passed : goal.returns-then-not-is_expected-clause-passed
returns-then-not-is_expected-clause-passed c = on_ok c.miss-then-not-is_expected.result (λ missed at some settled. absurd (cc (sym settled ∙ missed.1))) c.miss-then-not-is_expected.ensures.missed

pub returns-then-not-is_expected-clause-refused : goal.returns-then-not-is_expected-clause-refused
returns-then-not-is_expected-clause-refused c =
    let no : c.is_expected.result ≡ false = search rules in
    let why = c.is_expected.ensures.other no in
    if_err c.miss-then-not-is_expected.result (λ fault is began first place R it none over.
    subst (λ (f : CheckFault). RefusesRun began first [] place R f) (sym is.0)
    (begun_sum_else began R first place c.args.self.now c.come_to.new.self c.args.number c.come_to.ensures.others why.0 why.1 it over)) c.miss-then-not-is_expected.ensures.fault

pub returns-then-not-is_expected-clause-refused_from : goal.returns-then-not-is_expected-clause-refused_from
returns-then-not-is_expected-clause-refused_from c =
    let came : c.come_to.result ≡ true = search rules in
    let no : c.is_expected.result ≡ false = search rules in
    let why = c.is_expected.ensures.other no in
    if_err c.miss-then-not-is_expected.result (λ fault is copied at first place R before it w.
    subst (λ (f : CheckFault). RefusesFrom copied at first before [] place R f) (sym is.0)
    (coming_sum copied R at first place c.args.self.now c.come_to.new.self c.args.number before c.come_to.ensures.others (search rules)
    (c.come_to.ensures.waited came at w.from) why.0 why.1 it w)) c.miss-then-not-is_expected.ensures.fault

pub returns-then-not-is_expected-clause-shut : goal.returns-then-not-is_expected-clause-shut
returns-then-not-is_expected-clause-shut c =
    if_err c.miss-then-not-is_expected.result (λ fault is. shut_settles (record { last = c.args.number; is_open = c.args.is_open }) fault is.1) c.miss-then-not-is_expected.ensures.fault

-- other tables
pub returns-clause-refused : goal.returns-clause-refused
returns-clause-refused c =
    let sure : c.is_expected.result ≡ true = search rules in
    if_err c.compare_at.result (λ fault else began first place R it none over.
    begun_tables began R first place c.args.self.now c.come_to.new.self c.args.number fault c.come_to.ensures.others (c.is_expected.ensures.sum sure) else it
    (ran_from began R first place c.args.self.now c.come_to.new.self c.come_to.ensures.others over)) c.compare_at.ensures.fault

pub returns-clause-refused_from : goal.returns-clause-refused_from
returns-clause-refused_from c =
    let came : c.come_to.result ≡ true = search rules in
    let sure : c.is_expected.result ≡ true = search rules in
    if_err c.compare_at.result (λ fault else copied at first place R before it w.
    coming_tables copied R at first place c.args.self.now c.come_to.new.self c.args.number before fault c.come_to.ensures.others c.requires.settled (search rules)
    (c.come_to.ensures.waited came at w.from) (c.is_expected.ensures.sum sure) else it w) c.compare_at.ensures.fault

pub returns-clause-shut : goal.returns-clause-shut
returns-clause-shut c =
    if_err c.compare_at.result (λ fault else. compares_settle c.come_to.new.self c.args.number fault else (record { last = c.args.number; is_open = c.args.is_open }))
    c.compare_at.ensures.fault
