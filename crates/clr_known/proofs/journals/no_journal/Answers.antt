use Rattle.std.proofs.Common.{inl, refl}
use Rattle.clr_chain.specs.declared.fault.ChainFault.TheVariants.{OpenFailed}
use Rattle.clr_known.proofs.journals.no_journal.Goals as goal

pub returns-clause-opening : goal.returns-clause-opening
returns-clause-opening c = (OpenFailed, refl)

pub returns-clause-beginning : goal.returns-clause-beginning
returns-clause-beginning c = inl refl
