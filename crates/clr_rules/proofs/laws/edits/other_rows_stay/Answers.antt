use Rattle.clr_rules.specs.Prelude.{id_cmp, id_cmp_total, record_key, step_key, step_key_cmp, step_key_cmp_total, hold_cmp, hold_cmp_total, hold_key}
use Rattle.clr_rules.proofs.edits.EditReading.{has_row_put, has_row_taken}
use Rattle.clr_rules.proofs.laws.edits.other_rows_stay.Goals as goal

pub returns : goal.returns
returns c = λ R ordered. record {
  record_put = λ r. has_row_put id_cmp record_key id_cmp_total r R.records ordered.records;
  step_put = λ row. has_row_put step_key_cmp step_key step_key_cmp_total row R.steps ordered.steps;
  hold_put = λ h. has_row_put hold_cmp hold_key hold_cmp_total h R.holds ordered.holds;
  hold_taken = λ h. has_row_taken hold_cmp hold_key hold_cmp_total h R.holds ordered.holds;
}
