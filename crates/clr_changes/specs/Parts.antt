-- THE OBSTACLES IN PARTS, in their order: names of jumpers; then, after the limits, what the records
-- need that stand, what open records need, and whom the register needs.
use Rattle.std.specs.Prelude.{ℕ, ◌&&◌, ◌||◌, not, List, [], ◌∷◌, ◌++◌, filter, map, Option, None}
use Rattle.clr_net.specs.Grid.{point_names}
use Rattle.clr_net.specs.Names.{has_name}
use Rattle.clr_net.specs.declared.point.PointRow.{PointRow}
use Rattle.clr_rules.specs.Checks.{is_field, is_operator}
use Rattle.clr_rules.specs.HoldKind.{is_point_kind}
use Rattle.clr_rules.specs.Staffed.{has_some_role}
use Rattle.clr_rules.specs.Steps.{is_some_step, some_active}
use Rattle.clr_rules.specs.declared.hold.Hold.{Hold}
use Rattle.clr_rules.specs.declared.record.Record.{Record}
use Rattle.clr_rules.specs.declared.step_row.StepRow.{StepRow}
use Rattle.clr_staff.specs.declared.employee.StaffRow.{StaffRow}
use Rattle.std.specs.List.{list_any}
use Rattle.clr_update.specs.Update.{Update, first_named, is_filed, is_misnamed}
use Rattle.clr_update.specs.Update.{open_records, standing_records, where_so}
use Rattle.clr_update.specs.declared.obstacle.Obstacle.{Obstacle}
use Rattle.clr_update.specs.declared.obstacle.Obstacle.TheVariants as in_way
use Rattle.clr_changes.specs.Needs.{Renewal, first_row}
use Rattle.clr_changes.specs.declared.needs.Need.{Need}
use Rattle.clr_changes.specs.declared.needs.Need.TheVariants.{Section, Point, Step, Work, Holder}
use Rattle.clr_changes.specs.declared.needs.Need.TheVariants.{Reader, Requester}

abbrev pub name_obstacles : Update → List PointRow → List (Option Obstacle)
name_obstacles u jumpers =
    first_named in_way.NoJumper
    (filter (λ p. is_filed u p || not (has_name (point_names jumpers) p)) u.without) None
    ∷ first_named in_way.JumperName (point_names (filter (is_misnamed u) jumpers)) None
    ∷ []

-- the first row of each of these kinds that the records need
abbrev pub first_rows : Renewal → List Need → List Record → List (Option Obstacle)
first_rows V needs records = map (λ need. first_row V need records) needs

-- the roles that steps and holds need, and the staff lacks
abbrev pub missing_roles : List StepRow → List Hold → List StaffRow → List (Option Obstacle)
missing_roles steps holds staff =
    where_so (is_some_step steps && not (has_some_role staff is_operator)) in_way.NoOperator
    ∷ where_so ((list_any (λ h. is_point_kind h.kind) holds || some_active steps)
    && not (has_some_role staff is_field)) in_way.NoField
    ∷ []

abbrev pub staff_obstacles : Renewal → List (Option Obstacle)
staff_obstacles V = missing_roles V.before.steps V.before.holds V.after.staff

abbrev pub row_obstacles : Renewal → List (Option Obstacle)
row_obstacles V =
    first_rows V (Section ∷ Point ∷ []) (standing_records V.before)
    ++ (first_rows V (Step ∷ Work ∷ Holder ∷ Reader ∷ Requester ∷ []) (open_records V.before)
    ++ staff_obstacles V)
