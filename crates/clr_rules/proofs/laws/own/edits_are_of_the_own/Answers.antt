use Rattle.clr_rules.proofs.near.OwnEdits.{edits_of_own, same_own_edited_all}
use Rattle.clr_rules.proofs.laws.own.edits_are_of_the_own.Goals as goal

pub returns-clause-made : goal.returns-clause-made
returns-clause-made c = edits_of_own

pub returns-clause-after : goal.returns-clause-after
returns-clause-after c = same_own_edited_all
