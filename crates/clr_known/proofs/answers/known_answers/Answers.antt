use Rattle.std.proofs.Common.{refl}
use Rattle.clr_known.proofs.answers.known_answers.Goals as goal

-- the first is of lifetimes
pub answers_of-requires : goal.answers_of-requires
answers_of-requires g c k = ((refl, tt), record { sections = refl; points = refl; staff = refl })
