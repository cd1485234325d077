use Rattle.clr_verify.proofs.Exact.{of_point_now, decides}
use Rattle.clr_verify.proofs.table_row.PointNowTableRow.is_same.Goals as goal

pub returns : goal.returns
returns c = decides of_point_now c.args.self.now c.args.other.now c.eq.result c.eq.ensures
