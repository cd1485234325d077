-- A command that shows a clearance keeps a good register good.
use Rattle.clr_rules.specs.Prelude.{Id, Show}
use Rattle.clr_rules.proofs.good.Keeping.{KeepsGood, commands_keep, no_edits}

pub shows_keep : (c : Id) → KeepsGood (Show c)
shows_keep c = commands_keep (Show c) (λ R by at good passed. no_edits R good)
