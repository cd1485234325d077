use Rattle.clr_rules.specs.Run.{after_all}
use Rattle.clr_rules.proofs.keeps.EveryKind.{runs_keep_good}
use Rattle.clr_rules.proofs.isolation.OthersEdits.{others_left_alone}
use Rattle.clr_rules.proofs.laws.headline.nothing_is_taken_away.Goals as goal

pub returns : goal.returns
returns c R commands id q good others =
    others_left_alone (after_all R commands) id q (runs_keep_good R commands good) others
