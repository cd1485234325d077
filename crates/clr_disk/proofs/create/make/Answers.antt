use Rattle.sqlite.proofs.FileLemmas.{once_named}
use Rattle.clr_disk.proofs.create.make.Goals as goal

pub returns-in-Err-clause-cause : goal.returns-in-Err-clause-cause
returns-in-Err-clause-cause g c clean =
    rw (c.by_name.ensures.value, c.name_fault-kind.ensures.value, c.tally-before.ensures, c.tally_of.ensures) (once_named _ _ _ _ _ c.in-Err.error (c.in-Err.ensures.cause clean))
