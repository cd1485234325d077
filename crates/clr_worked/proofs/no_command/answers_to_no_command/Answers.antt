use Rattle.clr_worked.proofs.NoCommand.{printed_orders, refusals}
use Rattle.clr_worked.proofs.no_command.answers_to_no_command.Goals as goal

pub returns-clause-orders : goal.returns-clause-orders
returns-clause-orders c = printed_orders

pub returns-clause-refusals : goal.returns-clause-refusals
returns-clause-refusals c = refusals
