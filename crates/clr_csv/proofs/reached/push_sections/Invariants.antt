use Rattle.std.proofs.Common.{◌≡◌, ◌++◌, drop, map}
use Rattle.clr_net.specs.Grid.{section_names}
use Rattle.clr_csv.proofs.reached.push_sections.Given as goal

-- the names so far, and those that are left, are all
abbrev pub invariant-loop-section : goal.invariant-loop-section
invariant-loop-section l =
    l.names.items ++ section_names (map (λ row. row.now) (drop l.section-index l.section-items)) ≡ l.initial.names.items ++ section_names (map (λ row. row.now) l.section-items)
