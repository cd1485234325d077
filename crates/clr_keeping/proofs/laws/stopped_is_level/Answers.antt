use Rattle.clr_keeping.proofs.PartsLevel.{stopped_level}
use Rattle.clr_keeping.proofs.laws.stopped_is_level.Goals as goal

pub returns : goal.returns
returns g c = stopped_level g.K.CommitAt.has_place (g.K.Commit.kept c.args.keeper.now)
