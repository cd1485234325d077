use Rattle.clr_rules.proofs.edits.EditsInOrder.{answers_edits_in_order}
use Rattle.clr_rules.proofs.laws.edits.answers_edits_stand_in_order.Goals as goal

pub returns : goal.returns
returns c = answers_edits_in_order
