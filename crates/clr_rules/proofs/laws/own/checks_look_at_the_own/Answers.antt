use Rattle.clr_rules.proofs.near.OwnChecks.{checks_of_own}
use Rattle.clr_rules.proofs.laws.own.checks_look_at_the_own.Goals as goal

pub returns : goal.returns
returns c = checks_of_own
