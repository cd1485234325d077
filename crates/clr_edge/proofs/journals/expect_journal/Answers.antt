use Rattle.std.proofs.Common.{refl}
use Rattle.clr_chain.specs.declared.fault.ChainFault.TheVariants as chain
use Rattle.clr_edge.proofs.journals.expect_journal.Goals as goal

pub returns-in-Ok-2-clause-fault : goal.returns-in-Ok-2-clause-fault
returns-in-Ok-2-clause-fault g c = (chain.OpenFailed, refl)
