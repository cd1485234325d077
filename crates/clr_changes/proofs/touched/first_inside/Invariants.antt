use Rattle.std.proofs.Common.{◌≡◌, drop, filter}
use Rattle.clr_net.specs.Fence.{fence_has}
use Rattle.clr_net.specs.Grid.{section_names}
use Rattle.clr_changes.specs.Touched.{first_of}
use Rattle.clr_changes.proofs.touched.first_inside.Given as goal

abbrev pub invariant-loop-section : goal.invariant-loop-section
invariant-loop-section l =
    first_of (section_names (filter (λ row. fence_has l.fn.fence row.name) (drop l.section-index l.fn.sections))) ≡ first_of (section_names (filter (λ row. fence_has l.fn.fence row.name) l.fn.sections))
