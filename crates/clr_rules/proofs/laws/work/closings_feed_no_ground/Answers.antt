use Rattle.clr_rules.specs.Run.{after}
use Rattle.clr_rules.proofs.good.DeadWork.{grounded_sections_are_dead}
use Rattle.clr_rules.proofs.keeps.EveryKind.{commands_keep_good}
use Rattle.clr_rules.proofs.laws.work.closings_feed_no_ground.Goals as goal

pub returns : goal.returns
returns _ R q good = let kept = commands_keep_good R q good in grounded_sections_are_dead (after R q) kept.said
