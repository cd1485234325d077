use Rattle.std.proofs.Common.{IsTrue, take}
use Rattle.std.specs.List.{list_all}
use Rattle.clr_net.specs.Name.{is_name}
use Rattle.clr_wayback.proofs.answer.all_named.Given as goal

-- the employees before the place have names
abbrev pub invariant-loop-row : goal.invariant-loop-row
invariant-loop-row l = IsTrue (list_all (λ row. is_name row.name) (take l.row-index l.staff))
