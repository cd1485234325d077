use Rattle.clr_rules.proofs.near.OwnParts.{agreeing_have_same, near_has_own}
use Rattle.clr_rules.proofs.laws.own.same_own_is_near.Goals as goal

pub returns-clause-agreeing : goal.returns-clause-agreeing
returns-clause-agreeing c = agreeing_have_same

pub returns-clause-near : goal.returns-clause-near
returns-clause-near c = near_has_own
