use Rattle.clr_rules.proofs.edits.Growing.{positions_are_no_part}
use Rattle.clr_rules.proofs.laws.additions.positions_are_no_part.Goals as goal

pub returns : goal.returns
returns c = positions_are_no_part
