use Rattle.std.proofs.Common.{◌∙◌, ap}
use Rattle.clr_edge.specs.Fault.{database_fault}
use Rattle.clr_edge.proofs.database.fault_of.Goals as goal

pub returns : goal.returns
returns c = c.of_store.ensures ∙ ap database_fault c.from.ensures
