use Rattle.std.proofs.Common.{◌≡◌, ◌++◌, ◌&&◌, not, drop, filter}
use Rattle.clr_net.specs.Fence.{touches}
use Rattle.clr_net.specs.Grid.{Grid, section_names}
use Rattle.clr_net.specs.Name.{same_name}
use Rattle.clr_net.specs.Names.{has_name}
use Rattle.std.specs.List.{list_any}
use Rattle.clr_changes.proofs.staying.joined.Given as goal

-- the sections so far, and those that are left, are all
abbrev pub invariant-loop-section : goal.invariant-loop-section
invariant-loop-section l =
    l.found.items ++ filter (λ row. not (has_name (section_names (Grid.sections l.fn.update.network)) row.name) && list_any (touches (same_name row.name)) l.fn.staying) (drop l.section-index l.fn.sections)
    ≡ filter (λ row. not (has_name (section_names (Grid.sections l.fn.update.network)) row.name) && list_any (touches (same_name row.name)) l.fn.staying) l.fn.sections
