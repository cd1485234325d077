use Rattle.clr_changes.proofs.TakesNothing.{no_deed_takes_away}
use Rattle.clr_changes.proofs.deed_laws.no_deed_takes_away.Goals as goal

pub returns : goal.returns
returns c = no_deed_takes_away
