use Rattle.std.proofs.Common.{refl}
use Rattle.clr_chain.specs.declared.fault.ChainFault.TheVariants as chain
use Rattle.clr_edge.proofs.journals.size_fault.Goals as goal

pub returns-in-OutOfMemory-clause-opening : goal.returns-in-OutOfMemory-clause-opening
returns-in-OutOfMemory-clause-opening c = (chain.NoMemory, refl)

pub returns-in_default-clause-opening : goal.returns-in_default-clause-opening
returns-in_default-clause-opening c = (chain.OpenFailed, refl)
