use Rattle.std.proofs.Common.{◌≡◌, ◌++◌, drop, filter, map, not}
use Rattle.std.specs.List.{list_any}
use Rattle.clr_net.specs.Fence.{touches}
use Rattle.clr_net.specs.Name.{same_name}
use Rattle.clr_csv.specs.declared.warning.Warning.TheVariants.{NotJoined}
use Rattle.clr_csv.proofs.found.push_apart.Given as goal

-- what was found, and what is left to find, are all
abbrev pub invariant-loop-row : goal.invariant-loop-row
invariant-loop-row l =
    l.found.items ++ map (λ row. NotJoined row.name) (filter (λ row. not (list_any (touches (same_name row.name)) l.points)) (drop l.row-index l.sections)) ≡ l.initial.found.items ++ map (λ row. NotJoined row.name) (filter (λ row. not (list_any (touches (same_name row.name)) l.points)) l.sections)
