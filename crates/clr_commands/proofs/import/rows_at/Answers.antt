use Rattle.clr_commands.specs.Import.{as_lists}
use Rattle.clr_commands.proofs.ReadRows.{AreRead-at, IsErrOf-rows}
use Rattle.clr_commands.proofs.import.rows_at.Goals as goal

-- the files are those at the paths
pub returns-clause-rows : goal.returns-clause-rows
returns-clause-rows g c = record {
  rows = AreRead-at _ _ _ _ _ _ (as_lists c.rows_from.result) c.at-sections.ensures c.at-points.ensures c.at-staff.ensures c.rows_from.ensures.rows;
  sections_cause = λ is. (
    c.at-sections.result,
    c.rows_from.new.sections,
    c.at-sections.ensures,
    c.rows_from.ensures.sections_cause (IsErrOf-rows c.rows_from.result _ is),
  );
  points_cause = λ is. (
    c.at-points.result,
    c.rows_from.new.points,
    c.at-points.ensures,
    c.rows_from.ensures.points_cause (IsErrOf-rows c.rows_from.result _ is),
  );
  staff_cause = λ is. (
    c.at-staff.result,
    c.rows_from.new.staff,
    c.at-staff.ensures,
    c.rows_from.ensures.staff_cause (IsErrOf-rows c.rows_from.result _ is),
  );
}
