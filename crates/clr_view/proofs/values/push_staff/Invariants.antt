use Rattle.std.proofs.Common.{take, flat_map}
use Rattle.clr_view.specs.Tokens.{Adds, data_tokens}
use Rattle.clr_view.specs.View.{employee_data}
use Rattle.clr_view.proofs.values.push_staff.Given as goal

-- the employees before the place are written
abbrev pub invariant-loop-row : goal.invariant-loop-row
invariant-loop-row l = Adds (flat_map (λ row. data_tokens (employee_data row)) (take l.row-index l.staff)) l.initial.out l.out
