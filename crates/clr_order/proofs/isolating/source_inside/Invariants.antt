use Rattle.std.proofs.Common.{◌≡◌, map, drop, find}
use Rattle.clr_net.specs.declared.section.SectionRow.{SectionRow}
use Rattle.clr_order.proofs.isolating.source_inside.Given as goal

abbrev pub invariant-loop-section : goal.invariant-loop-section
invariant-loop-section l =
    find (λ (row : SectionRow). row.source) (map (λ row. row.now) (drop l.section-index l.section-items)) ≡ find (λ (row : SectionRow). row.source) l.fence.sections
