use Rattle.clr_verify.proofs.Exact.{of_step_row, decides}
use Rattle.clr_verify.proofs.table_row.StepRowTableRow.is_same.Goals as goal

pub returns : goal.returns
returns c = decides of_step_row c.args.self.now c.args.other.now c.eq.result c.eq.ensures
