use Rattle.clr_level.proofs.BegunLevel.{begun_level}
use Rattle.clr_level.proofs.laws.begun_is_level.Goals as goal

pub returns : goal.returns
returns g c = begun_level g.K.CommitAt.has_place (g.K.Commit.kept c.args.keeper.now)
