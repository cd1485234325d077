-- ANOTHER NETWORK AND ANOTHER STAFF in the tables, and the states of the network's points.
use Rattle.std.specs.Prelude.{◌≡◌, List, [], codes, map, ℕ}
use Rattle.sqlite.specs.Order.{Row}
use Rattle.clr_net.specs.Grid.{Grid, point_names, unplaced}
use Rattle.clr_net.specs.declared.point.PointRow.{PointRow}
use Rattle.clr_net.specs.declared.section.SectionRow.{SectionRow}
use Rattle.clr_rules.specs.Register.{unplaced_net}
use Rattle.clr_rules.specs.States.{state_key}
use Rattle.clr_rules.specs.declared.point_state.PointState.{PointState}
use Rattle.clr_staff.specs.declared.employee.StaffRow.{StaffRow}
use Rattle.clr_load.specs.Tables.{Tables, jumper_row, section_row, staff_row, state_at}
use Rattle.clr_load.specs.declared.table_name.TableName.{TableName}
use Rattle.clr_load.specs.declared.table_name.TableName.TheVariants.{Meta, Section, Point, Staff}
use Rattle.clr_load.specs.declared.table_name.TableName.TheVariants.{Clearance, Step, Hold}
use Rattle.clr_load.specs.declared.table_name.TableName.TheVariants.{NetworkPoint, Journal}
use Rattle.clr_store.specs.Change.{added, with_rows}

-- these are the states of these points, one each, in their order
abbrev pub AreStatesOf : List PointRow → List PointState → Type 0
AreStatesOf points states = map state_key states ≡ point_names points

-- THE TABLES WITH A NETWORK, A STAFF AND STATES in place of those that they have. All else stays:
-- the version, clearances, steps and holds
abbrev pub tables_renewed : Grid → List StaffRow → List PointState → Tables → Tables
tables_renewed g staff states t = record t {
  sections = map section_row g.sections;
  points = map (λ p. jumper_row p (state_at states p)) (Grid.points (unplaced_net g));
  staff = map staff_row staff;
}

-- ---- how it is done

-- all rows of a table taken away
abbrev pub clear_sql : TableName → List ℕ
clear_sql Meta = codes "DELETE FROM meta"
clear_sql Section = codes "DELETE FROM section"
clear_sql Point = codes "DELETE FROM point"
clear_sql Staff = codes "DELETE FROM staff"
clear_sql Clearance = codes "DELETE FROM clearance"
clear_sql Step = codes "DELETE FROM step"
clear_sql Hold = codes "DELETE FROM hold"
clear_sql NetworkPoint = codes "DELETE FROM network_point"
clear_sql Journal = codes "DELETE FROM journal"

-- a row for each point, with its state
abbrev pub rows_in_state : List PointState → List PointRow → List Row
rows_in_state states points = map (λ p. jumper_row p (state_at states (unplaced p))) points

-- a table with these rows alone
abbrev pub with_only : TableName → List Row → Tables → Tables
with_only name news t = with_rows name (added news) (with_rows name (λ _. []) t)

-- the three tables, one after the other
abbrev pub rows_renewed : List SectionRow → List PointRow → List PointState → List StaffRow → Tables
    → Tables
rows_renewed sections points states staff t =
    with_only Staff (map staff_row staff)
    (with_only NetworkPoint (rows_in_state states points)
    (with_only Section (map section_row sections) t))
