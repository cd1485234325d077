-- THE CHANGES OF AN UPDATE SAY ALL OF IT: which network and staff they lead to, and whether they can
-- be made in a register. So they stand for it where its files are not at hand, as in a journal.
use Rattle.std.specs.Prelude.{ℕ, Bool, ◌&&◌, not, if◌then◌else◌, List, [], ◌∷◌, ◌++◌}
use Rattle.std.specs.Prelude.{filter, is_some}
use Rattle.clr_net.specs.Network.{first_fault as network_fault}
use Rattle.clr_net.specs.Prelude.{Grid, has_name, name_cmp, point_names}
use Rattle.clr_rules.specs.Prelude.{Register}
use Rattle.clr_shelf.specs.Rows.{with_row}
use Rattle.clr_staff.specs.Staff.{first_fault as staff_fault}
use Rattle.clr_staff.specs.declared.employee.StaffRow.{StaffRow}
use Rattle.clr_update.specs.Changes.{Changes, is_none, lacking}
use Rattle.clr_update.specs.Rows.{same_employee, same_point, same_section}
use Rattle.clr_update.specs.Update.{Update, in_the_way, jumpers, updated}
use Rattle.clr_net.specs.declared.point.PointRow.{PointRow}
use Rattle.clr_net.specs.declared.section.SectionRow.{SectionRow}

-- the rows of a list that do not go, and those that come
abbrev pub passed : {Row : Type 0} → (Row → Row → Bool) → List Row → List Row → List Row → List Row
passed same go come rows = lacking same go rows ++ come

abbrev pub sections_left : Register → Changes → List SectionRow
sections_left R of = passed same_section of.sections_go of.sections_come (Grid.sections R.net)

abbrev pub points_left : Register → Changes → List PointRow
points_left R of = passed same_point of.points_go of.points_come (Grid.points R.net)

abbrev pub staff_left : Register → Changes → List StaffRow
staff_left R of = passed same_employee of.staff_goes of.staff_comes R.staff

-- rows in the order of their names; of two with one name the first
unfoldable pub in_name_order : {Row : Type 0} → (Row → List ℕ) → List Row → List Row
in_name_order name_of [] = []
in_name_order name_of (row ∷ rows) = with_row name_cmp name_of row (in_name_order name_of rows)

-- the network that they lead to, each point that comes in its position
abbrev pub network_of : Register → Changes → Grid
network_of R of = record {
  sections = in_name_order (λ row. row.name) (sections_left R of);
  points = in_name_order (λ p. p.name) (points_left R of);
}

abbrev pub staff_of : Register → Changes → List StaffRow
staff_of R of = in_name_order (λ row. row.name) (staff_left R of)

-- the jumpers of which this network has no point
abbrev pub jumpers_gone : Register → Grid → List (List ℕ)
jumpers_gone R g = filter (λ p. not (has_name (point_names g.points) p)) (point_names (jumpers R))

-- THE UPDATE THAT CHANGES SAY: its network is all that there is after it, also the jumpers that stay
abbrev pub update_of : Register → Changes → Update
update_of R of = record {
  net = network_of R of;
  staff = staff_of R of;
  without = jumpers_gone R (network_of R of);
}

-- each row that goes is there
abbrev pub all_there : Register → Changes → Bool
all_there R of = is_none (lacking same_section (Grid.sections R.net) of.sections_go)
    && (is_none (lacking same_point (Grid.points R.net) of.points_go)
    && is_none (lacking same_employee R.staff of.staff_goes))

-- with the rows that come it is a network and a staff: so each of these is new
abbrev pub have_no_fault : Register → Changes → Bool
have_no_fault R of = not (is_some (network_fault (sections_left R of) (points_left R of)))
    && not (is_some (staff_fault (staff_left R of)))

-- CHANGES CAN BE MADE in a register: the rows that go are there, those that come make a network and
-- a staff with the others, and nothing is in the way of the update that they say
unfoldable pub can_be_made : Register → Changes → Bool
can_be_made R of =
    all_there R of && (have_no_fault R of && not (is_some (in_the_way R (update_of R of))))

-- THE REGISTER AFTER CHANGES, if they can be made
abbrev pub after_changes : Register → Changes → Register
after_changes R of = if can_be_made R of then updated R (update_of R of) else R
