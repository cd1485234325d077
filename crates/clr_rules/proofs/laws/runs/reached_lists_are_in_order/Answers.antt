use Rattle.clr_rules.proofs.edits.Runs.{reached_lists_are_in_order}
use Rattle.clr_rules.proofs.laws.runs.reached_lists_are_in_order.Goals as goal

pub returns : goal.returns
returns c = reached_lists_are_in_order
