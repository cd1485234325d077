use Rattle.std.proofs.Common.{IsTrue, take}
use Rattle.std.specs.List.{list_all}
use Rattle.clr_desk.proofs.typed.all_typed.Given as goal

-- the values before the place are within their types
abbrev pub invariant-loop-value : goal.invariant-loop-value
invariant-loop-value g l = IsTrue (list_all g.T.Typed.is_typed (take l.value-index l.values))
