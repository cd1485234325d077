use Rattle.clr_rules.proofs.live.LiveSections.{source_is_live}
use Rattle.clr_rules.proofs.laws.live.sources_are_live.Goals as goal

pub returns : goal.returns
returns c = λ g net states. source_is_live g states net
