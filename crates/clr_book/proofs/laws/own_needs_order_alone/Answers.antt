use Rattle.clr_book.proofs.Enough.{own_rows_in_order}
use Rattle.clr_book.proofs.laws.own_needs_order_alone.Goals as goal

pub returns : goal.returns
returns c = own_rows_in_order
