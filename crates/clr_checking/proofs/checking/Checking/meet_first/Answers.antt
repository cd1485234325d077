use Rattle.std.proofs.Common.{◌≡◌, ◌∙◌, [], ap, false, rules, sym, true}
use Rattle.clr_rules.specs.declared.place.Place.{Place}
use Rattle.clr_checking.proofs.Results.{if_err, on_both, on_ok}
use Rattle.clr_checking.specs.declared.checking.Checking.{Checking}
use Rattle.clr_checking.proofs.Checked.{at_first, begun_checked, begun_checked_from}
use Rattle.clr_checking.proofs.Refused.{other_copy, other_else}
use Rattle.clr_checking.proofs.checking.Checking.meet_first.Goals as goal

pub returns-clause-went : goal.returns-clause-went
returns-clause-went c =
    let sure : c.is_of_journal.result ≡ true = search rules in
    on_ok c.begin_at.result (λ goes began first place R ids ends none over.
    begun_checked began R first place c.args.self.now c.begin_at.new.self ids ends (c.is_of_journal.ensures.place sure)
    (ap (λ (x : Checking). x.walk) c.begin_at.ensures.others) c.begin_at.ensures.begun
    (λ it empty so_far. goes began first place R it empty so_far) none over) c.begin_at.ensures.went

pub returns-clause-went_from : goal.returns-clause-went_from
returns-clause-went_from c =
    let sure : c.is_of_journal.result ≡ true = search rules in
    on_both c.begin_at.result (λ waited passed copied at first place R ids ends some waits.
    begun_checked_from copied R at first place c.args.self.now c.begin_at.new.self ids ends (c.is_of_journal.ensures.place sure)
    (c.is_of_journal.ensures.from sure at some) (ap (λ (x : Checking). x.walk) c.begin_at.ensures.others)
    (λ it w. waited copied at first place R [] it w) (passed at) waits) c.begin_at.ensures.waited c.begin_at.ensures.passed

-- the journal is another register's
pub returns-then-not-is_of_journal-clause-refused : goal.returns-then-not-is_of_journal-clause-refused
returns-then-not-is_of_journal-clause-refused c = λ began first place R ids ends none over.
    let not : c.is_of_journal.result ≡ false = search rules in
    other_else began R first place c.args.self.now ids none (c.is_of_journal.ensures.other not) over

pub returns-then-not-is_of_journal-clause-refused_from : goal.returns-then-not-is_of_journal-clause-refused_from
returns-then-not-is_of_journal-clause-refused_from c = λ copied at first place R ids ends some here waits.
    let not : c.is_of_journal.result ≡ false = search rules in
    other_copy copied R at first place c.args.self.now ids some here (c.is_of_journal.ensures.other not)

-- or the first line is at a place, and differs
pub returns-clause-refused : goal.returns-clause-refused
returns-clause-refused c =
    let sure : c.is_of_journal.result ≡ true = search rules in
    if_err c.begin_at.result (λ fault refuses began first place R ids ends none over.
    refuses began first place R
    (at_first first place c.args.self.now ends (ap (λ (p : Place). p.id) (sym over.of.place_is) ∙ c.is_of_journal.ensures.place sure ∙ ids)) none over)
    c.begin_at.ensures.refused

pub returns-clause-refused_from : goal.returns-clause-refused_from
returns-clause-refused_from c =
    let sure : c.is_of_journal.result ≡ true = search rules in
    if_err c.begin_at.result (λ fault refuses copied at first place R ids ends some here waits.
    let w = waits (c.is_of_journal.ensures.from sure at some ∙ ids) in
    refuses copied at first place R []
    (at_first first place c.args.self.now ends (ap (λ (p : Place). p.id) (sym w.of.place_is) ∙ c.is_of_journal.ensures.place sure ∙ ids)) w)
    c.begin_at.ensures.refused_from
