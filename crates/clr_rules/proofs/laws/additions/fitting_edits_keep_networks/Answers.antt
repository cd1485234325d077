use Rattle.clr_rules.proofs.edits.Growing.{fitting_edits_keep_networks}
use Rattle.clr_rules.proofs.laws.additions.fitting_edits_keep_networks.Goals as goal

pub returns : goal.returns
returns c = fitting_edits_keep_networks
