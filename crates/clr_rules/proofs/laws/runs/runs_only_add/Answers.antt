use Rattle.clr_rules.proofs.edits.Additions.{runs_only_add}
use Rattle.clr_rules.proofs.laws.runs.runs_only_add.Goals as goal

pub returns : goal.returns
returns c = runs_only_add
