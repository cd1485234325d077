-- Changes that can be said are read from their value, and that is plain.
use Rattle.std.proofs.Common.{◌≡◌, ◌∙◌, ◌≤◌, ℕ, Bool, true, ◌&&◌, List, [], ◌∷◌, Option, None, Some, refl, ap, sym, arith, option_map, option_and_then}
use Rattle.std.proofs.lemmas.Bool.{and_from, and_parts, false≢true}
use Rattle.std.proofs.lemmas.Str.{is_utf8-from_IsUtf8}
use Rattle.std.specs.List.{list_all}
use Rattle.json.proofs.Printed.Utf8.{IsUtf8-are_ascii}
use Rattle.serde_json.specs.Data.{Data, depth, string}
use Rattle.clr_net.proofs.Names.{name_is_text}
use Rattle.clr_net.specs.Name.{is_name}
use Rattle.clr_net.specs.declared.point.PointRow.{PointRow}
use Rattle.clr_net.specs.declared.point.Position.{Position}
use Rattle.clr_net.specs.declared.point.Position.TheVariants.{Closed, Opened}
use Rattle.clr_net.specs.declared.section.SectionRow.{SectionRow}
use Rattle.clr_staff.specs.declared.employee.Role.{Role}
use Rattle.clr_staff.specs.declared.employee.Role.TheVariants.{Charge, Field, Operator}
use Rattle.clr_staff.specs.declared.employee.StaffRow.{StaffRow}
use Rattle.clr_text.proofs.PlainTexts.{members_of, object_plain}
use Rattle.clr_text.proofs.RepliesFlat.{list_is_flat, optional_is_flat}
use Rattle.clr_text.proofs.SaidReads.{all_back, all_plain, name_reads_back}
use Rattle.clr_text.specs.CommandLaws.{is_plain}
use Rattle.clr_text.specs.Json.{list_data, name_data, optional_data, position_text, role_text}
use Rattle.clr_text.specs.Values.{name_in}
use Rattle.clr_update.specs.Changes.{Changes}
use Rattle.clr_journal.specs.Delta.{both_data, can_be_said, changes_data, changes_in, list_in}
use Rattle.clr_journal.specs.DeltaLaws.{ChangesReadBack, ChangeValuesArePlain}
use Rattle.clr_journal.specs.DeltaRows.{employee_data, employee_in, gone_data, gone_in, is_name_or_none, is_open, is_said_employee, is_said_gone, is_said_point, is_said_section, point_data, point_in}
use Rattle.clr_journal.specs.DeltaRows.{position_in, role_in, section_data, section_in, supervisor_in}

-- ---- columns

position_back : (position : Position) → position_in (string (position_text position)) ≡ Some position
position_back Opened = refl
position_back Closed = refl

role_back : (role : Role) → role_in (string (role_text role)) ≡ Some role
role_back Operator = refl
role_back Field = refl
role_back Charge = refl

supervisor_back : (supervisor : Option (List ℕ)) → is_name_or_none supervisor ≡ true → supervisor_in (optional_data name_data supervisor) ≡ Some supervisor
supervisor_back None h = refl
supervisor_back (Some name) h = ap (option_map Some) (name_reads_back name h)

-- ---- rows

section_back : (row : SectionRow) → is_said_section row ≡ true → section_in (section_data row) ≡ Some row
section_back row h =
    let made : Option (List ℕ) → Option SectionRow = λ name. option_and_then (λ n. Some (record { name = n; source = row.source })) name in
    ap made (name_reads_back row.name h)

module _ (p : PointRow) (h : is_said_point p ≡ true) where
  abbrev made : Option (List ℕ) → Option (List ℕ) → Option (List ℕ) → Option PointRow
  made name from to = option_and_then (λ n. option_and_then (λ f. option_and_then (λ t. Some (record {
    name = n;
    from_end = f;
    to_end = t;
    lockable = p.lockable;
    remote = p.remote;
    position = Opened;
    jumper = p.jumper;
  })) to) from) name

  ends : (is_name p.name ≡ true) × (is_name p.from_end ≡ true) × (is_name p.to_end ≡ true)
  ends = let a = and_parts (is_name p.name) (is_name p.from_end && is_name p.to_end) h in let b = and_parts (is_name p.from_end) (is_name p.to_end) a.1 in (a.0, b.0, b.1)

  made_back : made (name_in (name_data p.name)) (name_in (name_data p.from_end)) (name_in (name_data p.to_end)) ≡ Some (record p { position = Opened })
  made_back =
      let name = name_reads_back p.name ends.0 in
      let from = name_reads_back p.from_end ends.1 in
      let to = name_reads_back p.to_end ends.2 in
      λ i. made (name i) (from i) (to i)

  pub columns_back : gone_in (gone_data p) ≡ Some (record p { position = Opened })
  columns_back = made_back

  pub point_back : point_in (point_data p) ≡ Some p
  point_back =
      let position = position_back p.position in
      (λ i. option_and_then (λ q. option_map (λ (at : Position). record q { position = at }) (position i)) (made_back i))

opened : (position : Position) → is_open position ≡ true → position ≡ Opened
opened Opened h = refl
opened Closed h = absurd (false≢true h)

gone_back : (p : PointRow) → is_said_gone p ≡ true → gone_in (gone_data p) ≡ Some p
gone_back p h =
    let a = and_parts (is_said_point p) (is_open p.position) h in
    let position = opened p.position a.1 in
    columns_back p a.0 ∙ (λ i. Some (record p { position = sym position i }))

employee_back : (row : StaffRow) → is_said_employee row ≡ true → employee_in (employee_data row) ≡ Some row
employee_back row h =
    let a = and_parts (is_name row.name) (is_name_or_none row.supervisor) h in
    let name = name_reads_back row.name a.0 in
    let role = role_back row.role in
    let supervisor = supervisor_back row.supervisor a.1 in
    let made : Option (List ℕ) → Option Role → Option (Option (List ℕ)) → Option StaffRow =
    λ n r s. option_and_then (λ name. option_and_then (λ role. option_map (λ supervisor. record { name = name; role = role; supervisor = supervisor }) s) r) n in
    λ i. made (name i) (role i) (supervisor i)

-- ---- lists

list_back : {A : Type 0} (seen : A → Data) (reading : Data → Option A) (said : A → Bool) → ((x : A) → said x ≡ true → reading (seen x) ≡ Some x)
    → (list : List A) → list_all said list ≡ true → list_in reading (list_data seen list) ≡ Some list
list_back seen reading said back list h = all_back seen reading said back list h

-- ---- the changes

-- what it means that they can be said
record AreSaid (of : Changes) : Type 0 where
  sections_go : list_all is_said_section of.sections_go ≡ true
  sections_come : list_all is_said_section of.sections_come ≡ true
  points_go : list_all is_said_gone of.points_go ≡ true
  points_come : list_all is_said_point of.points_come ≡ true
  staff_goes : list_all is_said_employee of.staff_goes ≡ true
  staff_comes : list_all is_said_employee of.staff_comes ≡ true

are_said : (of : Changes) → can_be_said of ≡ true → AreSaid of
are_said of h =
    let (sections, rest) = and_parts _ _ h in
    let (points, staff) = and_parts _ _ rest in
    let (sections_go, sections_come) = and_parts _ _ sections in
    let (points_go, points_come) = and_parts _ _ points in
    let (staff_goes, staff_comes) = and_parts _ _ staff in
    record { sections_go = sections_go; sections_come = sections_come; points_go = points_go; points_come = points_come; staff_goes = staff_goes; staff_comes = staff_comes }

abbrev both : {A B : Type 0} → Option (List A) → Option (List B) → Option (List A × List B)
both come go = option_and_then (λ c. option_map (λ g. (c, g)) go) come

abbrev all_of : Option (List PointRow × List PointRow) → Option (List SectionRow × List SectionRow) → Option (List StaffRow × List StaffRow) → Option Changes
all_of points sections staff = option_and_then (λ p. option_and_then (λ s. option_map (λ e. record {
  sections_go = s.1;
  sections_come = s.0;
  points_go = p.1;
  points_come = p.0;
  staff_goes = e.1;
  staff_comes = e.0;
}) staff) sections) points

pub changes_read_back : ChangesReadBack
unfolding changes_data changes_in
changes_read_back of h =
    let said = are_said of h in
    let points_come = list_back point_data point_in is_said_point point_back of.points_come said.points_come in
    let points_go = list_back gone_data gone_in is_said_gone gone_back of.points_go said.points_go in
    let sections_come = list_back section_data section_in is_said_section section_back of.sections_come said.sections_come in
    let sections_go = list_back section_data section_in is_said_section section_back of.sections_go said.sections_go in
    let staff_comes = list_back employee_data employee_in is_said_employee employee_back of.staff_comes said.staff_comes in
    let staff_goes = list_back employee_data employee_in is_said_employee employee_back of.staff_goes said.staff_goes in
    λ i. all_of (both (points_come i) (points_go i)) (both (sections_come i) (sections_go i)) (both (staff_comes i) (staff_goes i))

-- points of which none has a position can be said to go
pub gone_said : (rows : List PointRow) → list_all is_said_point rows ≡ true → list_all (λ p. is_open p.position) rows ≡ true → list_all is_said_gone rows ≡ true
gone_said [] named open_all = refl
gone_said (p ∷ rows) named open_all =
    let a = and_parts (is_said_point p) (list_all is_said_point rows) named in
    let b = and_parts (is_open p.position) (list_all (λ q. is_open q.position) rows) open_all in
    and_from _ _ (and_from (is_said_point p) (is_open p.position) a.0 b.0) (gone_said rows a.1 b.1)

-- ---- plain

name_plain : (s : List ℕ) → is_name s ≡ true → is_plain (name_data s) ≡ true
name_plain s h = is_utf8-from_IsUtf8 s (name_is_text s h)

position_plain : (position : Position) → is_plain (string (position_text position)) ≡ true
position_plain Opened = is_utf8-from_IsUtf8 (position_text Opened) (IsUtf8-are_ascii (position_text Opened) refl)
position_plain Closed = is_utf8-from_IsUtf8 (position_text Closed) (IsUtf8-are_ascii (position_text Closed) refl)

role_plain : (role : Role) → is_plain (string (role_text role)) ≡ true
role_plain Operator = is_utf8-from_IsUtf8 (role_text Operator) (IsUtf8-are_ascii (role_text Operator) refl)
role_plain Field = is_utf8-from_IsUtf8 (role_text Field) (IsUtf8-are_ascii (role_text Field) refl)
role_plain Charge = is_utf8-from_IsUtf8 (role_text Charge) (IsUtf8-are_ascii (role_text Charge) refl)

supervisor_plain : (supervisor : Option (List ℕ)) → is_name_or_none supervisor ≡ true → is_plain (optional_data name_data supervisor) ≡ true
supervisor_plain None h = refl
supervisor_plain (Some name) h = name_plain name h

section_plain : (row : SectionRow) → is_said_section row ≡ true → is_plain (section_data row) ≡ true
section_plain row h = object_plain (members_of (section_data row)) refl (name_plain row.name h, (refl, tt))

module _ (p : PointRow) (h : is_said_point p ≡ true) where
  point_plain : is_plain (point_data p) ≡ true
  point_plain = object_plain (members_of (point_data p)) refl
      (name_plain p.from_end (ends p h).1, (refl, (refl, (name_plain p.name (ends p h).0, (position_plain p.position, (refl, (name_plain p.to_end (ends p h).2, tt)))))))

  columns_plain : is_plain (gone_data p) ≡ true
  columns_plain = object_plain (members_of (gone_data p)) refl
      (name_plain p.from_end (ends p h).1, (refl, (refl, (name_plain p.name (ends p h).0, (refl, (name_plain p.to_end (ends p h).2, tt))))))

gone_plain : (p : PointRow) → is_said_gone p ≡ true → is_plain (gone_data p) ≡ true
gone_plain p h = columns_plain p (and_parts (is_said_point p) (is_open p.position) h).0

employee_plain : (row : StaffRow) → is_said_employee row ≡ true → is_plain (employee_data row) ≡ true
employee_plain row h =
    let a = and_parts (is_name row.name) (is_name_or_none row.supervisor) h in
    object_plain (members_of (employee_data row)) refl (name_plain row.name a.0, (role_plain row.role, (supervisor_plain row.supervisor a.1, tt)))

both_plain : (come go : Data) → is_plain come ≡ true → is_plain go ≡ true → is_plain (both_data come go) ≡ true
both_plain come go come_plain go_plain = object_plain (members_of (both_data come go)) refl (come_plain, (go_plain, tt))

are_plain : (of : Changes) → can_be_said of ≡ true → is_plain (changes_data of) ≡ true
unfolding changes_data
are_plain of h =
    let said = are_said of h in
    let points = both_plain (list_data point_data of.points_come) (list_data gone_data of.points_go)
    (all_plain point_data is_said_point point_plain of.points_come said.points_come) (all_plain gone_data is_said_gone gone_plain of.points_go said.points_go) in
    let sections = both_plain (list_data section_data of.sections_come) (list_data section_data of.sections_go)
    (all_plain section_data is_said_section section_plain of.sections_come said.sections_come) (all_plain section_data is_said_section section_plain of.sections_go said.sections_go) in
    let staff = both_plain (list_data employee_data of.staff_comes) (list_data employee_data of.staff_goes)
    (all_plain employee_data is_said_employee employee_plain of.staff_comes said.staff_comes) (all_plain employee_data is_said_employee employee_plain of.staff_goes said.staff_goes) in
    object_plain (members_of (changes_data of)) refl (points, (sections, (staff, tt)))

-- ---- flat

employee_flat : (row : StaffRow) → depth (employee_data row) ≤ 1
employee_flat row = let supervisor = optional_is_flat name_data (λ name. omega arith) row.supervisor in omega (arith, supervisor)

are_flat : (of : Changes) → depth (changes_data of) ≤ 4
unfolding changes_data
are_flat of =
    let points_come = list_is_flat point_data 1 (λ p. omega arith) of.points_come in
    let points_go = list_is_flat gone_data 1 (λ p. omega arith) of.points_go in
    let sections_come = list_is_flat section_data 1 (λ row. omega arith) of.sections_come in
    let sections_go = list_is_flat section_data 1 (λ row. omega arith) of.sections_go in
    let staff_comes = list_is_flat employee_data 1 employee_flat of.staff_comes in
    let staff_goes = list_is_flat employee_data 1 employee_flat of.staff_goes in
    omega (arith, points_come, points_go, sections_come, sections_go, staff_comes, staff_goes)

pub change_values_are_plain : ChangeValuesArePlain
change_values_are_plain of h = (are_plain of h, are_flat of)
