use Rattle.std.proofs.Common.{Some, ap, refl}
use Rattle.clr_known.proofs.files_alone.known_of_files.Goals as goal

-- the first is of lifetimes
pub of_files-requires : goal.of_files-requires
of_files-requires g c k = ((refl, tt), record { sections = refl; points = refl; staff = refl })

pub returns-clause-text : goal.returns-clause-text
returns-clause-text g c = c.of_files.ensures.text (ap (λ bytes. Some bytes.now) c.new-input.ensures.inner)
