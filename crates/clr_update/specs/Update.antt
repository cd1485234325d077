-- AN UPDATE: network and staff as they are to be from now on. The register after it; and what is in
-- its way, the first in a stated order.
use Rattle.std.specs.Prelude.{ℕ, Bool, true, false, ◌&&◌, ◌||◌, not, if◌then◌else◌, List, [], ◌∷◌}
use Rattle.std.specs.Prelude.{◌++◌, filter, flat_map, map, Option, None, Some, unwrap_or}
use Rattle.clr_net.specs.Prelude.{Grid, IsNetwork, has_name, list_any, point_names}
use Rattle.clr_net.specs.Prelude.{same_name, section_names, touches}
use Rattle.clr_net.specs.Walk.{joins}
use Rattle.clr_staff.specs.Staff.{IsStaff}
use Rattle.clr_staff.specs.declared.employee.Role.{Role}
use Rattle.clr_staff.specs.declared.employee.StaffRow.{StaffRow}
use Rattle.clr_rules.specs.Checks.{employee, has_role, is_field, is_operator}
use Rattle.clr_rules.specs.Edits.{fit}
use Rattle.clr_rules.specs.Fences.{record_fence}
use Rattle.clr_rules.specs.Good.{is_known_work, is_operators}
use Rattle.clr_rules.specs.Prelude.{Id, Register}
use Rattle.clr_rules.specs.Prelude.{after_edits, is_active, is_point_kind, is_some_step}
use Rattle.clr_rules.specs.Prelude.{is_standing}
use Rattle.clr_rules.specs.Prelude.{points_of, state_of, steps_of}
use Rattle.clr_rules.specs.Records.{is_open}
use Rattle.clr_rules.specs.Register.{opening}
use Rattle.clr_rules.specs.Staffed.{fits_holder, has_some_role}
use Rattle.clr_rules.specs.Steps.{some_active}
use Rattle.clr_rules.specs.declared.step_row.StepRow.{StepRow}
use Rattle.clr_update.specs.Changes.{Changes, changes}
use Rattle.clr_update.specs.Rows.{same_flag}
use Rattle.clr_update.specs.declared.obstacle.Obstacle.{Obstacle}
use Rattle.clr_update.specs.declared.obstacle.Obstacle.TheVariants as in_way
use Rattle.clr_net.specs.declared.point.PointRow.{PointRow}
use Rattle.clr_net.specs.declared.section.SectionRow.{SectionRow}
use Rattle.clr_rules.specs.declared.change.Edit.TheVariants.{AddPoint, AddSection}
use Rattle.clr_rules.specs.declared.change.Edit.{Edit}
use Rattle.clr_rules.specs.declared.point_state.PointState.{PointState}
use Rattle.clr_rules.specs.declared.record.Record.{Record}

pub record Update : Type 0 where
  -- the network of the files, each point in the position of its row
  pub net : Grid
  pub staff : List StaffRow
  -- the jumpers that are taken out
  pub without : List (List ℕ)

-- the files are a network and a staff, as those of a new register
pub record IsRead (u : Update) : Type 0 where
  pub network : IsNetwork u.net
  pub staff : IsStaff u.staff

-- WHAT STAYS: the jumpers that no file names and that are not taken out, and the sections at their
-- ends that no file names

abbrev pub is_filed : Update → List ℕ → Bool
is_filed u p = has_name (point_names (Grid.points u.net)) p

abbrev pub jumpers : Register → List PointRow
jumpers R = filter (λ p. p.jumper) R.net.points

abbrev pub staying : Register → Update → List PointRow
staying R u = filter (λ p. not (is_filed u p.name || has_name u.without p.name)) (jumpers R)

abbrev pub joined : Register → Update → List SectionRow
joined R u = filter
    (λ row. not (has_name (section_names (Grid.sections u.net)) row.name)
    && list_any (touches (same_name row.name)) (staying R u)) R.net.sections

abbrev pub kept : Register → Update → List Edit
kept R u = map AddSection (joined R u) ++ map AddPoint (staying R u)

-- THE REGISTER AFTER AN UPDATE: its network and points are those of a new register of the files, to
-- which is added what stays. A point that was there keeps its position, and is in the hand that it
-- was in. Records, steps and holds stay

unfoldable pub filed : Register → Update → Register
filed R u = after_edits (kept R u) (opening u.net u.staff)

abbrev pub kept_state : List PointState → PointState → PointState
kept_state states new = unwrap_or (state_of states new.point) new

abbrev pub updated : Register → Update → Register
updated R u = record R {
  net = Register.net (filed R u);
  staff = u.staff;
  states = map (kept_state R.states) (Register.states (filed R u));
}

-- WHAT IS IN ITS WAY. First the rows that a record needs as they are, and that an update from R to
-- S would change

-- the sections of its fence that go or change
abbrev pub fence_sections : Register → Register → Record → List (List ℕ)
fence_sections R S r = section_names
    (filter (λ row. has_name (record_fence R.net R.steps r) row.name)
    (Changes.sections_go (changes R S)))

-- the points with an end in its fence that go, come or change
abbrev pub fence_points : Register → Register → Record → List (List ℕ)
fence_points R S r = point_names
    (filter (touches (has_name (record_fence R.net R.steps r)))
    (Changes.points_go (changes R S) ++ Changes.points_come (changes R S)))

-- the points of its steps that go or change
abbrev pub step_points : Register → Register → Record → List (List ℕ)
step_points R S r = point_names
    (filter (λ p. has_name (points_of (steps_of R.steps r.id)) p.name)
    (Changes.points_go (changes R S)))

abbrev pub unless : Bool → List (List ℕ) → List (List ℕ)
unless true names = []
unless false names = names

abbrev pub names_in : Option (List ℕ) → List (List ℕ)
names_in None = []
names_in (Some name) = name ∷ []

-- its work section, if that goes
abbrev pub work_section : Register → Register → Record → List (List ℕ)
work_section R S r =
    unless (is_known_work (section_names (Grid.sections S.net)) r.work) (names_in r.work)

abbrev pub has : Register → (Role → Bool) → List ℕ → Bool
has S fits name = has_role fits (employee S.staff name)

-- its holder, if the staff no longer has the role that a holder needs
abbrev pub its_holder : Register → Register → Record → List (List ℕ)
its_holder R S r = unless (has S (fits_holder r.work) r.holder) (r.holder ∷ [])

-- of those who repeated a step that is not reported, who is no field employee any more
abbrev pub its_readers : Register → Register → Record → List (List ℕ)
its_readers R S r = filter (λ name. not (has S is_field name))
    (flat_map (λ (row : StepRow). names_in row.step.reader)
    (filter (λ row. is_active row.step.state) (steps_of R.steps r.id)))

-- its requester, if that becomes an operator, or ceases to be one: an operator's records are switch
-- orders, and all others clearances, and both are numbered as one
abbrev pub its_requester : Register → Register → Record → List (List ℕ)
its_requester R S r =
    unless (same_flag (is_operators R r.id.requester) (is_operators S r.id.requester))
    (r.id.requester ∷ [])

-- then the first of these rows, and the least record that needs it

abbrev pub first_named : (List ℕ → Obstacle) → List (List ℕ) → Option Obstacle → Option Obstacle
first_named obstacle [] rest = rest
first_named obstacle (name ∷ names) rest = Some (obstacle name)

unfoldable pub first_needed : (List ℕ → Id → Obstacle) → (Record → List (List ℕ)) → List Record
    → Option Obstacle
first_needed obstacle rows [] = None
first_needed obstacle rows (r ∷ records) =
    first_named (λ name. obstacle name r.id) (rows r) (first_needed obstacle rows records)

abbrev pub standing_records : Register → List Record
standing_records R = filter (λ r. is_standing r.phase) R.records

abbrev pub open_records : Register → List Record
open_records R = filter (λ r. is_open r.phase) R.records

abbrev pub where_so : Bool → Obstacle → Option Obstacle
where_so so obstacle = if so then Some obstacle else None

abbrev pub first_obstacle : List (Option Obstacle) → Option Obstacle
first_obstacle [] = None
first_obstacle (None ∷ rest) = first_obstacle rest
first_obstacle (Some obstacle ∷ rest) = Some obstacle

-- whether a jumper's name is that of a point of the files which does not join what it joins
abbrev pub is_misnamed : Update → PointRow → Bool
is_misnamed u p =
    list_any (λ q. same_name q.name p.name && not (joins q p.from_end p.to_end)) (Grid.points u.net)

-- whether something is held at a point, or a step is given out
abbrev pub needs_field : Register → Bool
needs_field R = list_any (λ h. is_point_kind h.kind) R.holds || some_active R.steps

-- THE OBSTACLES to an update from R to S, in their order
unfoldable pub obstacles : Register → Update → Register → List (Option Obstacle)
obstacles R u S =
    first_named in_way.NoJumper
    (filter (λ p. is_filed u p || not (has_name (point_names (jumpers R)) p)) u.without) None
    ∷ first_named in_way.JumperName (point_names (filter (is_misnamed u) (jumpers R))) None
    ∷ where_so (not (fit u.net (kept R u))) in_way.TooLarge
    ∷ first_needed in_way.Section (fence_sections R S) (standing_records R)
    ∷ first_needed in_way.Point (fence_points R S) (standing_records R)
    ∷ first_needed in_way.Step (step_points R S) (open_records R)
    ∷ first_needed in_way.Work (work_section R S) (open_records R)
    ∷ first_needed in_way.Holder (its_holder R S) (open_records R)
    ∷ first_needed in_way.Reader (its_readers R S) (open_records R)
    ∷ first_needed in_way.Requester (its_requester R S) (open_records R)
    ∷ where_so (is_some_step R.steps && not (has_some_role S.staff is_operator)) in_way.NoOperator
    ∷ where_so (needs_field R && not (has_some_role S.staff is_field)) in_way.NoField
    ∷ []

-- WHAT IS IN THE WAY of an update, if anything is
abbrev pub in_the_way : Register → Update → Option Obstacle
in_the_way R u = first_obstacle (obstacles R u (updated R u))

-- it is carried out where nothing is, and changes nothing otherwise
abbrev pub unless_obstacle : Option Obstacle → Register → Register → Register
unless_obstacle None R S = S
unless_obstacle (Some obstacle) R S = R

abbrev pub after_update : Register → Update → Register
after_update R u = unless_obstacle (in_the_way R u) R (updated R u)
