use Rattle.clr_store.proofs.Rising.{files_are_numbered, files_rise}
use Rattle.clr_store.proofs.laws.files_are_numbered.Goals as goal

pub returns-clause-rise : goal.returns-clause-rise
returns-clause-rise g c = files_rise g.D.Disk

pub returns-clause-numbered : goal.returns-clause-numbered
returns-clause-numbered g c = files_are_numbered g.D.Disk
