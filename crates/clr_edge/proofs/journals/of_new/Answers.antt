use Rattle.std.proofs.Common.{inr, refl}
use Rattle.clr_chain.specs.declared.fault.NewFault.TheVariants as unbegun
use Rattle.clr_edge.proofs.journals.of_new.Goals as goal

pub returns-in-HasBytes-clause-beginning : goal.returns-in-HasBytes-clause-beginning
returns-in-HasBytes-clause-beginning c = inr (unbegun.HasBytes, refl)

pub returns-in-WriteFailed-clause-beginning : goal.returns-in-WriteFailed-clause-beginning
returns-in-WriteFailed-clause-beginning c = inr (unbegun.WriteFailed, refl)

pub returns-in-TooLong-clause-beginning : goal.returns-in-TooLong-clause-beginning
returns-in-TooLong-clause-beginning c = inr (unbegun.TooLong, refl)

pub returns-in-NoMemory-clause-beginning : goal.returns-in-NoMemory-clause-beginning
returns-in-NoMemory-clause-beginning c = inr (unbegun.NoMemory, refl)
