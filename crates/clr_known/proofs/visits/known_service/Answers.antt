use Rattle.std.proofs.Common.{refl}
use Rattle.clr_known.proofs.visits.known_service.Goals as goal

-- the first is of lifetimes
pub service_of_jones-requires : goal.service_of_jones-requires
service_of_jones-requires g c k = ((refl, tt), record { no_journal = refl; no_logins = refl; terms = refl })
