-- WHERE THE TABLES OF TWO REGISTERS DIFFER: in the first table of the schema that is not the same,
-- and there in the first row.
use Rattle.std.specs.Prelude.{◌≡◌, ℕ, List, map, Option, None, Some}
use Rattle.clr_net.specs.Grid.{Grid}
use Rattle.clr_net.specs.Name.{name_cmp}
use Rattle.clr_net.specs.declared.point.PointRow.{PointRow}
use Rattle.clr_net.specs.declared.section.SectionRow.{SectionRow}
use Rattle.clr_staff.specs.declared.employee.StaffRow.{StaffRow}
use Rattle.clr_rules.specs.Hold.{hold_cmp}
use Rattle.clr_rules.specs.Id.{id_cmp}
use Rattle.clr_rules.specs.Register.{Register}
use Rattle.clr_rules.specs.StepKey.{step_key, step_key_cmp}
use Rattle.clr_rules.specs.declared.hold.Hold.{Hold as HoldRow}
use Rattle.clr_rules.specs.declared.record.Record.{Record}
use Rattle.clr_load.specs.Tables.{state_at, tables_of}
use Rattle.clr_verify.specs.Differences.{DiffersAt}
use Rattle.clr_verify.specs.declared.registers.Difference.{Difference}
use Rattle.clr_verify.specs.declared.registers.Difference.TheVariants.{Section, Point, Staff}
use Rattle.clr_verify.specs.declared.registers.Difference.TheVariants.{Clearance, Step, Hold}
use Rattle.clr_verify.specs.declared.table_row.PointNow.{PointNow}

-- the switching points, as they are now: what their table has of them
abbrev pub point_now : Register → PointRow → PointNow
point_now R p = record { row = p; state = state_at R.states p }

abbrev pub points_now : Register → List PointNow
points_now R = map (point_now R) (Grid.points R.net)

abbrev pub point_key : PointNow → List ℕ
point_key point = point.row.name

-- the rows of a table are the same, and so are those of all tables before it
abbrev pub SameSections : Register → Register → Type 0
SameSections R S = Grid.sections R.net ≡ Grid.sections S.net

abbrev pub SameToPoints : Register → Register → Type 0
SameToPoints R S = SameSections R S × (points_now R ≡ points_now S)

abbrev pub SameToStaff : Register → Register → Type 0
SameToStaff R S = SameToPoints R S × (R.staff ≡ S.staff)

abbrev pub SameToClearances : Register → Register → Type 0
SameToClearances R S = SameToStaff R S × (R.records ≡ S.records)

abbrev pub SameToSteps : Register → Register → Type 0
SameToSteps R S = SameToClearances R S × (R.steps ≡ S.steps)

-- THE FIRST ROW IN WHICH THE TABLES DIFFER, by its table and its key; none where the tables are the
-- same
abbrev pub IsFirstDifference : Register → Register → Option Difference → Type 0
IsFirstDifference R S None = tables_of R ≡ tables_of S
IsFirstDifference R S (Some (Section key)) =
    DiffersAt (λ (row : SectionRow). row.name) name_cmp (Grid.sections R.net) (Grid.sections S.net)
    key
IsFirstDifference R S (Some (Point key)) = SameSections R S
    × DiffersAt point_key name_cmp (points_now R) (points_now S) key
IsFirstDifference R S (Some (Staff key)) = SameToPoints R S
    × DiffersAt (λ (row : StaffRow). row.name) name_cmp R.staff S.staff key
IsFirstDifference R S (Some (Clearance key)) = SameToStaff R S
    × DiffersAt (λ (row : Record). row.id) id_cmp R.records S.records key
IsFirstDifference R S (Some (Step key)) = SameToClearances R S
    × DiffersAt step_key step_key_cmp R.steps S.steps key
IsFirstDifference R S (Some (Hold key)) = SameToSteps R S
    × DiffersAt (λ (hold : HoldRow). hold) hold_cmp R.holds S.holds key
