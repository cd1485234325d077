use Rattle.std.proofs.Common.{◌≡◌, ◌++◌, drop, filter, map, not}
use Rattle.clr_net.specs.Names.{has_name}
use Rattle.clr_csv.specs.declared.warning.Warning.TheVariants.{NotReached}
use Rattle.clr_csv.proofs.found.push_unreached.Given as goal

-- what was found, and what is left to find, are all
abbrev pub invariant-loop-row : goal.invariant-loop-row
invariant-loop-row l =
    l.found.items ++ map (λ row. NotReached row.name) (filter (λ row. not (has_name l.reached row.name)) (drop l.row-index l.sections)) ≡ l.initial.found.items ++ map (λ row. NotReached row.name) (filter (λ row. not (has_name l.reached row.name)) l.sections)
