use Rattle.std.proofs.Common.{Err, Ok}
use Rattle.clr_commands.proofs.Faults.{passed}
use Rattle.clr_commands.proofs.NextParts.{next_memory, next_plain, next_told}
use Rattle.clr_commands.proofs.next_part.next_part.Goals as goal

pub returns-clause-visit : goal.returns-clause-visit
returns-clause-visit g c = (Ok c.in_ok-number.number, c.in_ok-line.ensures.ok, c.in_ok-number.ensures.visit)

-- memory ran out after it was begun
pub returns-in_err-line-clause-visit : goal.returns-in_err-line-clause-visit
returns-in_err-line-clause-visit g c = (Ok c.in_ok-number.number, next_memory _ _ c.from_residual-in_err-line.ensures.1, c.in_ok-number.ensures.visit)

-- it was not
pub returns-in_err-number-clause-visit : goal.returns-in_err-number-clause-visit
returns-in_err-number-clause-visit g c = (Err c.in_err-number.field-0.0, next_told _ _ c.from_residual.ensures.1, c.in_err-number.ensures.visit)

pub returns-in_err-number-clause-faults : goal.returns-in_err-number-clause-faults
returns-in_err-number-clause-faults g c = passed _ _ c.from_residual.ensures.1 (next_plain _ c.in_err-number.ensures.fault)
