use Rattle.clr_rules.proofs.isolation.OthersEdits.{others_keep_held_open, others_spare}
use Rattle.clr_rules.proofs.laws.footprint.commands_of_others_leave_alone.Goals as goal

pub returns-clause-frame : goal.returns-clause-frame
returns-clause-frame c = others_spare

pub returns-clause-open : goal.returns-clause-open
returns-clause-open c = others_keep_held_open
