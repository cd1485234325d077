use Rattle.clr_level.proofs.Fronts.{fronts_open}
use Rattle.clr_level.proofs.laws.fronts_can_be_opened.Goals as goal

pub returns : goal.returns
returns g c = fronts_open g.K.CommitAt.has_place (g.K.Commit.kept c.args.was.now) (g.K.Commit.kept c.args.found.now)
