use Rattle.clr_load.proofs.Places.{places_read}
use Rattle.clr_load.proofs.table_laws.places_are_read.Goals as goal

pub returns : goal.returns
returns c = places_read
