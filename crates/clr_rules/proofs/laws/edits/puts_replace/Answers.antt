use Rattle.clr_rules.proofs.Common.{row_of-with, step_key, step_key_cmp, step_key_cmp_total}
use Rattle.clr_rules.proofs.edits.EditReading.{record_of-put}
use Rattle.clr_rules.proofs.laws.edits.puts_replace.Goals as goal

pub returns-clause-record : goal.returns-clause-record
returns-clause-record c = λ R r id. record_of-put r id R.records

pub returns-clause-step : goal.returns-clause-step
returns-clause-step c = λ R row key. row_of-with step_key_cmp step_key step_key_cmp_total key row R.steps
