use Rattle.clr_rules.proofs.edits.EditReading.{has_hold-put, has_hold-taken}
use Rattle.clr_rules.proofs.laws.edits.holds_are_put_and_taken.Goals as goal

pub returns-clause-put : goal.returns-clause-put
returns-clause-put c = λ R h id kind place. has_hold-put h R.holds id kind place

pub returns-clause-taken : goal.returns-clause-taken
returns-clause-taken c = λ R h id kind place. has_hold-taken h R.holds id kind place
