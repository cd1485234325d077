use Rattle.std.proofs.Common.{ap, subst, sym, List}
use Rattle.clr_csv.specs.Points.{points_of}
use Rattle.clr_csv.specs.Sections.{sections_of}
use Rattle.clr_edge.specs.declared.fault.ImportFile.TheVariants.{Points, Sections}
use Rattle.clr_net.specs.Grid.{Grid}
use Rattle.clr_net.specs.Network.{IsGridOf}
use Rattle.clr_net.specs.declared.point.PointRow.{PointRow}
use Rattle.clr_net.specs.declared.section.SectionRow.{SectionRow}
use Rattle.clr_examples.specs.Worked.{worked_net}
use Rattle.clr_known.specs.Known.{point_file, section_file}
use Rattle.clr_known.proofs.WorkedRows.{file_sections, is_worked_net, points_read, rows_are, sections_read}
use Rattle.clr_known.proofs.databases.worked_network.Goals as goal

pub returns : goal.returns
returns c =
    let g = c.in_ok-network.network in
    let sections = rows_are Sections sections_of _ section_file file_sections c.in_ok-sections.sections.items
    (ap (λ b. b.now) c.new.ensures.inner) sections_read c.in_ok-sections.ensures.rows in
    let points = rows_are Points points_of _ point_file (Grid.points worked_net) c.in_ok-points.points.items
    (ap (λ b. b.now) c.new-2.ensures.inner) points_read c.in_ok-points.ensures.rows in
    is_worked_net g (subst (λ (rows : List PointRow). IsGridOf file_sections rows g) (sym points)
    (subst (λ (rows : List SectionRow). IsGridOf rows c.in_ok-points.points.items g) (sym sections) c.in_ok-network.ensures.1))
