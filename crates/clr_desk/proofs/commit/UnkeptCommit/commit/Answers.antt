use Rattle.clr_desk.proofs.KeptNowhere.{commits_nothing}
use Rattle.clr_desk.proofs.commit.UnkeptCommit.commit.Goals as goal

pub returns-clause-commits : goal.returns-clause-commits
returns-clause-commits c = commits_nothing c.args.change.now.edits.items
