use Rattle.clr_desk.proofs.Givings.{later_desks_survive}
use Rattle.clr_desk.proofs.laws.later_desks_survive.Goals as goal

pub returns : goal.returns
returns g c = later_desks_survive g.K.Commit.kept g.K.Commit.takes g.met.K.Commit.settled
