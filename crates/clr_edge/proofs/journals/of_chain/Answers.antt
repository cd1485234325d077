use Rattle.std.proofs.Common.{refl}
use Rattle.clr_chain.specs.declared.fault.ChainFault.TheVariants as chain
use Rattle.clr_edge.proofs.journals.of_chain.Goals as goal

pub returns-in-OpenFailed-clause-opening : goal.returns-in-OpenFailed-clause-opening
returns-in-OpenFailed-clause-opening c = (chain.OpenFailed, refl)

pub returns-in-NoMemory-clause-opening : goal.returns-in-NoMemory-clause-opening
returns-in-NoMemory-clause-opening c = (chain.NoMemory, refl)

pub returns-in-OtherRules-clause-opening : goal.returns-in-OtherRules-clause-opening
returns-in-OtherRules-clause-opening c = (chain.OtherRules c.in-OtherRules.number, refl)

pub returns-in-OtherRegister-clause-opening : goal.returns-in-OtherRegister-clause-opening
returns-in-OtherRegister-clause-opening c = (chain.OtherRegister, refl)

pub returns-in-TooShort-clause-opening : goal.returns-in-TooShort-clause-opening
returns-in-TooShort-clause-opening c = (chain.TooShort, refl)

pub returns-in-Differs-clause-opening : goal.returns-in-Differs-clause-opening
returns-in-Differs-clause-opening c = (chain.Differs c.in-Differs.number, refl)

pub returns-in-BadLine-clause-opening : goal.returns-in-BadLine-clause-opening
returns-in-BadLine-clause-opening c = (chain.BadLine c.in-BadLine.number, refl)
