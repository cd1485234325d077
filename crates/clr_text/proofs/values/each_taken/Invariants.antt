use Rattle.std.proofs.Common.{IsTrue, take}
use Rattle.std.specs.List.{list_all}
use Rattle.clr_text.proofs.values.each_taken.Given as goal

-- the values before the place are taken
abbrev pub invariant-loop-value : goal.invariant-loop-value
invariant-loop-value g l = IsTrue (list_all g.T.KeyValue.is_taken (take l.value-index l.values))
