use Rattle.clr_rules.proofs.isolation.RunReplies.{others_change_no_reply, others_take_nothing, own_stand_alone}
use Rattle.clr_rules.proofs.laws.run_headline.headline_holds_of_runs.Goals as goal

pub returns-clause-replies : goal.returns-clause-replies
returns-clause-replies c = others_change_no_reply

pub returns-clause-nothing : goal.returns-clause-nothing
returns-clause-nothing c = others_take_nothing

pub returns-clause-alone : goal.returns-clause-alone
returns-clause-alone c = own_stand_alone
