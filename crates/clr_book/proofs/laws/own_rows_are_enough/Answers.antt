use Rattle.clr_book.proofs.Enough.{own_rows_are_enough}
use Rattle.clr_book.proofs.laws.own_rows_are_enough.Goals as goal

pub returns : goal.returns
returns c = own_rows_are_enough
