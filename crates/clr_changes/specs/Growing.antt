-- A NETWORK THAT GROWS: what is added to it, one row after the other.
use Rattle.std.specs.Prelude.{List, [], ◌∷◌, ◌++◌, map}
use Rattle.clr_net.specs.Grid.{Grid}
use Rattle.clr_net.specs.declared.point.PointRow.{PointRow}
use Rattle.clr_net.specs.declared.section.SectionRow.{SectionRow}
use Rattle.clr_rules.specs.Edits.{net_after}
use Rattle.clr_rules.specs.declared.change.Edit.{Edit}
use Rattle.clr_rules.specs.declared.change.Edit.TheVariants.{AddPoint, AddSection}

-- sections, and then points
abbrev pub added : List SectionRow → List PointRow → List Edit
added sections points = map AddSection sections ++ map AddPoint points

unfoldable pub grown : List Edit → Grid → Grid
grown [] g = g
grown (edit ∷ edits) g = grown edits (net_after edit g)
