use Rattle.clr_chain.proofs.Ending.{ends_say_all}
use Rattle.clr_chain.proofs.laws.ends_say_all.Goals as goal

pub returns : goal.returns
returns c = ends_say_all
