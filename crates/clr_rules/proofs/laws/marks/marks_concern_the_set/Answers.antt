use Rattle.clr_rules.proofs.near.NearWords.{mark_says}
use Rattle.clr_rules.proofs.laws.marks.marks_concern_the_set.Goals as goal

pub returns : goal.returns
returns c = mark_says
