use Rattle.clr_rules.proofs.live.LiveSections.{live_is_least}
use Rattle.clr_rules.proofs.laws.live.live_is_least.Goals as goal

pub returns : goal.returns
returns c = λ g net states. live_is_least g states net
