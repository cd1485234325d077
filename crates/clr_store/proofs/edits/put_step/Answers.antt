use Rattle.clr_rules.specs.declared.step_row.StepRow.{StepRow}
use Rattle.clr_store.proofs.Given.{bound_name}
use Rattle.clr_store.proofs.edits.put_step.Goals as goal

pub returns : goal.returns
returns g c =
    rw (c.name_value.ensures, c.requester-requester.ensures, c.number_value.ensures, c.from.ensures, c.number.ensures.value, c.number_value-2.ensures, c.from-2.ensures, c.number_value-3.ensures, c.from-3.ensures, c.text_value.ensures, c.action_name.ensures, c.name_value-2.ensures, c.text_value-2.ensures, c.state_name.ensures, c.name_or_null.ensures, bound_name ((StepRow.step c.args.row.now).reader)) at c.put.ensures
