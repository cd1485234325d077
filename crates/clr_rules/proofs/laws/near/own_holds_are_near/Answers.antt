use Rattle.clr_rules.proofs.near.OwnHoldsNear.{own_holds_near, round_one_touches}
use Rattle.clr_rules.proofs.laws.near.own_holds_are_near.Goals as goal

pub returns-clause-points : goal.returns-clause-points
returns-clause-points c = round_one_touches

pub returns-clause-holds : goal.returns-clause-holds
returns-clause-holds c = own_holds_near
