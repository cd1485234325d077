-- THE CHANGES OF AN UPDATE AS A JSON VALUE, and how it is read: of each kind of rows those that come
-- and those that go.
use Rattle.std.specs.Prelude.{Bool, ◌&&◌, List, codes, Option, option_and_then, option_map}
use Rattle.std.specs.List.{list_all}
use Rattle.serde_json.specs.Data.{Data, member, no_members, object}
use Rattle.serde_json.specs.Find.{as_array}
use Rattle.clr_text.specs.Json.{list_data}
use Rattle.clr_text.specs.Values.{all_read}
use Rattle.clr_update.specs.Changes.{Changes}
use Rattle.clr_journal.specs.DeltaRows.{at_key, employee_data, employee_in, gone_data, gone_in}
use Rattle.clr_journal.specs.DeltaRows.{is_said_employee, is_said_gone, is_said_point, is_said_section}
use Rattle.clr_journal.specs.DeltaRows.{point_data, point_in, section_data, section_in}

-- ---- writing

abbrev pub both_data : Data → Data → Data
both_data come go = object (member (codes "come") come (member (codes "go") go no_members))

unfoldable pub changes_data : Changes → Data
changes_data of =
    object (member (codes "points")
    (both_data (list_data point_data of.points_come) (list_data gone_data of.points_go))
    (member (codes "sections")
    (both_data (list_data section_data of.sections_come) (list_data section_data of.sections_go))
    (member (codes "staff")
    (both_data (list_data employee_data of.staff_comes) (list_data employee_data of.staff_goes))
    no_members)))

-- ---- reading

abbrev pub list_in : {A : Type 0} → (Data → Option A) → Data → Option (List A)
list_in reading d = option_and_then (all_read reading) (as_array d)

-- the rows of a kind at a key: those that come, and those that go
abbrev pub both_in : {A B : Type 0} → (Data → Option A) → (Data → Option B) → Data
    → Option (List A × List B)
both_in coming going d =
    option_and_then (λ come. option_map (λ go. (come, go)) (at_key (list_in going) (codes "go") d))
    (at_key (list_in coming) (codes "come") d)

-- THE CHANGES THAT A VALUE SAYS, if it says such. A key that it does not have is passed over
unfoldable pub changes_in : Data → Option Changes
changes_in d =
    option_and_then (λ points. option_and_then (λ sections. option_map (λ staff.
    record {
      sections_go = sections.1;
      sections_come = sections.0;
      points_go = points.1;
      points_come = points.0;
      staff_goes = staff.1;
      staff_comes = staff.0;
    })
    (at_key (both_in employee_in employee_in) (codes "staff") d))
    (at_key (both_in section_in section_in) (codes "sections") d))
    (at_key (both_in point_in gone_in) (codes "points") d)

-- CHANGES CAN BE SAID: each name is a name, and no point that goes has a position
abbrev pub can_be_said : Changes → Bool
can_be_said of =
    (list_all is_said_section of.sections_go && list_all is_said_section of.sections_come)
    && ((list_all is_said_gone of.points_go && list_all is_said_point of.points_come)
    && (list_all is_said_employee of.staff_goes && list_all is_said_employee of.staff_comes))
