use Rattle.std.proofs.Common.{◌≡◌, map, drop}
use Rattle.clr_net.specs.Grid.{section_names}
use Rattle.clr_net.specs.Names.{has_name}
use Rattle.clr_answer.proofs.checks.network.has_section.Given as goal

abbrev pub invariant-loop-row : goal.invariant-loop-row
invariant-loop-row l = has_name (section_names (map (λ row. row.now) (drop l.row-index l.row-items))) l.section ≡ has_name (section_names l.near.rows.net.sections) l.section
