use Rattle.clr_rules.proofs.isolation.PartEdits.{part_near-edited_all}
use Rattle.clr_rules.proofs.laws.agreement.edits_change_what_they_concern.Goals as goal

pub returns : goal.returns
returns c = part_near-edited_all
