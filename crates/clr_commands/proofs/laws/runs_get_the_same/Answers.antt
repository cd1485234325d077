use Rattle.clr_commands.proofs.ConnectionRuns.{runs_get_the_same}
use Rattle.clr_commands.proofs.laws.runs_get_the_same.Goals as goal

pub returns : goal.returns
returns c = runs_get_the_same c.headline_holds_of_runs.ensures.replies
