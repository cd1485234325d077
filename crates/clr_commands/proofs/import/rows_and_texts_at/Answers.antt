use Rattle.clr_commands.specs.Import.{contents_of, lists_of}
use Rattle.clr_edge.specs.Paths.{at_paths}
use Rattle.clr_commands.proofs.ReadTexts.{read-all, texts-rows, unread-points, unread-sections, unread-staff}
use Rattle.clr_commands.specs.declared.import.Rows.{Rows}
use Rattle.clr_commands.specs.declared.import.Texts.{Texts}
use Rattle.clr_commands.proofs.import.rows_and_texts_at.Goals as goal

pub returns-clause-rows : goal.returns-clause-rows
returns-clause-rows g c =
    let rows : Rows = record { sections = c.in_ok-section_rows.section_rows; points = c.in_ok-point_rows.point_rows; staff = c.in_ok-staff_rows.staff_rows } in
    read-all (at_paths g.O.File.Read.remaining g.O.File.CountedRead.failure_count (g.O.Opens.bytes_at c.args.paths.now)) c.args.files.now (lists_of rows)
    c.in_ok-section_rows.ensures.rows c.in_ok-point_rows.ensures.rows c.in_ok-staff_rows.ensures.rows

pub returns-clause-texts : goal.returns-clause-texts
returns-clause-texts g c =
    let rows : Rows = record { sections = c.in_ok-section_rows.section_rows; points = c.in_ok-point_rows.point_rows; staff = c.in_ok-staff_rows.staff_rows } in
    let texts : Texts = record { sections = c.in_ok-section_rows.sections; points = c.in_ok-point_rows.points; staff = c.in_ok-staff_rows.staff } in
    texts-rows (contents_of texts) (lists_of rows) c.in_ok-section_rows.ensures.text c.in_ok-point_rows.ensures.text c.in_ok-staff_rows.ensures.text

pub returns-clause-known : goal.returns-clause-known
returns-clause-known g c = record {
  sections = c.in_ok-section_rows.ensures.known;
  points = c.in_ok-point_rows.ensures.known;
  staff = c.in_ok-staff_rows.ensures.known;
}

-- a file has a fault
pub returns-in_err-section_rows-clause-rows : goal.returns-in_err-section_rows-clause-rows
returns-in_err-section_rows-clause-rows g c =
    unread-sections (at_paths g.O.File.Read.remaining g.O.File.CountedRead.failure_count (g.O.Opens.bytes_at c.args.paths.now)) c.args.files.now _ _
    c.from_residual.ensures.1 c.in_err-section_rows.ensures.rows c.in_err-section_rows.ensures.fault c.in_err-section_rows.ensures.cause

pub returns-in_err-point_rows-clause-rows : goal.returns-in_err-point_rows-clause-rows
returns-in_err-point_rows-clause-rows g c =
    unread-points (at_paths g.O.File.Read.remaining g.O.File.CountedRead.failure_count (g.O.Opens.bytes_at c.args.paths.now)) c.args.files.now _ _
    c.in_ok-section_rows.section_rows.items c.from_residual-in_err-point_rows.ensures.1 c.in_ok-section_rows.ensures.rows
    c.in_err-point_rows.ensures.rows c.in_err-point_rows.ensures.fault c.in_err-point_rows.ensures.cause

pub returns-in_err-staff_rows-clause-rows : goal.returns-in_err-staff_rows-clause-rows
returns-in_err-staff_rows-clause-rows g c =
    unread-staff (at_paths g.O.File.Read.remaining g.O.File.CountedRead.failure_count (g.O.Opens.bytes_at c.args.paths.now)) c.args.files.now _ _
    c.in_ok-section_rows.section_rows.items c.in_ok-point_rows.point_rows.items c.from_residual-in_err-staff_rows.ensures.1 c.in_ok-section_rows.ensures.rows
    c.in_ok-point_rows.ensures.rows c.in_err-staff_rows.ensures.rows c.in_err-staff_rows.ensures.fault c.in_err-staff_rows.ensures.cause
