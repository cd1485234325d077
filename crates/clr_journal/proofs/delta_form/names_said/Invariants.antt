use Rattle.std.proofs.Common.{IsTrue, take}
use Rattle.std.specs.List.{list_all}
use Rattle.clr_journal.proofs.delta_form.names_said.Given as goal

-- the rows before the place have names
abbrev pub invariant-loop-row : goal.invariant-loop-row
invariant-loop-row g l = IsTrue (list_all g.F.Form.is_named (take l.row-index l.rows))
