use Rattle.clr_load.proofs.Reopened.{opened_with}
use Rattle.clr_load.proofs.laws.tables_open_again.Goals as goal

pub returns : goal.returns
returns c = opened_with
