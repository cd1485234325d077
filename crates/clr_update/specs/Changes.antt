-- WHAT CHANGES from one register to the next in network and staff: rows go, and rows come. A row
-- that changes goes as it was, and comes as it is.
use Rattle.std.specs.Prelude.{ℕ, Bool, true, false, ◌&&◌, not, List, [], ◌∷◌, filter, map}
use Rattle.std.specs.Prelude.{unwrap_or}
use Rattle.clr_net.specs.Prelude.{list_any, touches}
use Rattle.clr_staff.specs.declared.employee.StaffRow.{StaffRow}
use Rattle.clr_rules.specs.Prelude.{Register, position_of}
use Rattle.clr_update.specs.Rows.{same_employee, same_point, same_section}
use Rattle.clr_net.specs.declared.point.PointRow.{PointRow}
use Rattle.clr_net.specs.declared.section.SectionRow.{SectionRow}
use Rattle.clr_rules.specs.declared.point_state.PointState.{PointState}

-- the rows that are none of these
abbrev pub lacking : {Row : Type 0} → (Row → Row → Bool) → List Row → List Row → List Row
lacking same others rows = filter (λ row. not (list_any (same row) others)) rows

-- a point in the position that it has
abbrev pub in_position : List PointState → PointRow → PointRow
in_position states p = record p { position = unwrap_or (position_of states p.name) p.position }

pub record Changes : Type 0 where
  pub sections_go : List SectionRow
  pub sections_come : List SectionRow
  pub points_go : List PointRow
  -- each in its position
  pub points_come : List PointRow
  pub staff_goes : List StaffRow
  pub staff_comes : List StaffRow

abbrev pub changes : Register → Register → Changes
changes R S = record {
  sections_go = lacking same_section S.net.sections R.net.sections;
  sections_come = lacking same_section R.net.sections S.net.sections;
  points_go = lacking same_point S.net.points R.net.points;
  points_come = map (in_position S.states) (lacking same_point R.net.points S.net.points);
  staff_goes = lacking same_employee S.staff R.staff;
  staff_comes = lacking same_employee R.staff S.staff;
}

-- what of it concerns a set of sections: its sections, the points with an end in it, and all of the
-- staff
abbrev pub near_set : (List ℕ → Bool) → Changes → Changes
near_set inside of = record {
  sections_go = filter (λ row. inside row.name) of.sections_go;
  sections_come = filter (λ row. inside row.name) of.sections_come;
  points_go = filter (touches inside) of.points_go;
  points_come = filter (touches inside) of.points_come;
  staff_goes = of.staff_goes;
  staff_comes = of.staff_comes;
}

abbrev pub is_none : {X : Type 0} → List X → Bool
is_none [] = true
is_none (x ∷ xs) = false

-- nothing of the network changes, and nothing of the staff
abbrev pub net_stays : Changes → Bool
net_stays of = is_none of.sections_go && (is_none of.sections_come
    && (is_none of.points_go && is_none of.points_come))

abbrev pub staff_stays : Changes → Bool
staff_stays of = is_none of.staff_goes && is_none of.staff_comes

-- nothing changes
abbrev pub are_none : Changes → Bool
are_none of = net_stays of && staff_stays of
