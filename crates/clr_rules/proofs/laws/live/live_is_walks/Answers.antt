use Rattle.clr_rules.proofs.live.LiveSections.{live_is_closed_walks, live_is_walks}
use Rattle.clr_rules.proofs.laws.live.live_is_walks.Goals as goal

pub returns-clause-walks : goal.returns-clause-walks
returns-clause-walks c = λ g net states. live_is_walks g states net

pub returns-clause-closed_walks : goal.returns-clause-closed_walks
returns-clause-closed_walks c = λ g net states. live_is_closed_walks g states net
