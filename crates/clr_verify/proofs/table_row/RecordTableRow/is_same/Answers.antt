use Rattle.clr_verify.proofs.Exact.{of_record, decides}
use Rattle.clr_verify.proofs.table_row.RecordTableRow.is_same.Goals as goal

pub returns : goal.returns
returns c = decides of_record c.args.self.now c.args.other.now c.eq.result c.eq.ensures
