use Rattle.clr_desk.proofs.Filled.{opens_again}
use Rattle.clr_desk.proofs.laws.good_registers_open_again.Goals as goal

pub returns : goal.returns
returns c = opens_again
