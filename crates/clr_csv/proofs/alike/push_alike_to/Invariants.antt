use Rattle.std.proofs.Common.{◌≡◌, ◌++◌, drop, filter, map}
use Rattle.clr_csv.specs.Alike.{differ_by_one_letter}
use Rattle.clr_csv.specs.declared.warning.Warning.TheVariants.{Alike}
use Rattle.clr_csv.proofs.alike.push_alike_to.Given as goal

-- the pairs so far, and those that are left, are all
abbrev pub invariant-loop-other : goal.invariant-loop-other
invariant-loop-other l =
    l.warnings.items ++ map (Alike l.of l.fn.name) (filter (differ_by_one_letter l.fn.name) (drop l.other-index l.later)) ≡ l.initial.warnings.items ++ map (Alike l.of l.fn.name) (filter (differ_by_one_letter l.fn.name) l.later)
