use Rattle.std.proofs.Common.{inl, inr, refl}
use Rattle.clr_command_line.proofs.command_line.answer.Goals as goal

-- no file that is named beside a database is one of its own, and what is asked for is carried out
pub returns-in-Ok : goal.returns-in-Ok
returns-in-Ok g c = rw c.in-Asked.is (inr (c.in-Ok.ensures.others, c.carry_out.ensures))

-- one of them is, or memory ran out
pub returns-in-Err : goal.returns-in-Err
returns-in-Err g c = rw c.in-Asked.is (inl (c.in-Err.fault, c.in-Err.ensures.own, (refl, refl), refl, c.report_fault.ensures))
