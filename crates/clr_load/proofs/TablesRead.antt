-- The tables of a register read as its rows.
use Rattle.std.proofs.Common.{◌≡◌, Bool, true, false, cond, ◌&&◌, List, map, Result, Ok, Err, refl, sym, ◌∙◌, ap, subst}
use Rattle.std.specs.List.{list_all}
use Rattle.std.specs.Prelude.{pos}
use Rattle.sqlite.specs.Order.{Row}
use Rattle.clr_net.specs.Grid.{Grid}
use Rattle.clr_net.specs.declared.point.PointRow.{PointRow}
use Rattle.clr_net.proofs.ListFacts.{map-map}
use Rattle.clr_rules.specs.Good.{ListsAreInOrder}
use Rattle.clr_rules.specs.Register.{Register}
use Rattle.clr_rules.specs.declared.point_state.PointState.{PointState}
use Rattle.clr_load.specs.RowsRead.{PointRead, Rows, all_read, with_its_position, read_clearance, read_hold, read_point, read_section, read_staff, read_step, read_version, rows_by, rows_of, rows_read}
use Rattle.clr_load.specs.TableLaws.{StatesAreThePoints, TablesAreRead, TablesReadAsNoOthers}
use Rattle.clr_load.specs.Tables.{clearance_row, hold_row, jumper_row, section_row, staff_row, state_at, step_row, tables_of}
use Rattle.clr_load.specs.TypedRows.{IsTyped, is_id_or_none, is_typed_employee, is_typed_hold, is_typed_point, is_typed_record, is_typed_section, is_typed_state, is_typed_step}
use Rattle.clr_load.specs.declared.table_name.TableName.{TableName}
use Rattle.clr_load.specs.declared.table_name.TableName.TheVariants as table
use Rattle.clr_load.proofs.PointStates.{both_tests, state_from, states_back}
use Rattle.clr_load.proofs.RowsBack.{all_back, employee_reads, hold_reads, map-same, point_reads, point_said, record_reads, section_reads, step_reads}

-- a whole table of rows that read as themselves
whole : {A : Type 0} (read : Row → Result A TableName) (row_of : A → Row) (typed : A → Bool) (t : TableName)
    → ((x : A) → read (row_of x) ≡ cond (typed x) (Ok x) (Err t)) → (xs : List A) → all_read read (map row_of xs) ≡ cond (list_all typed xs) (Ok xs) (Err t)
whole read row_of typed t each xs = all_back read row_of (λ x. x) typed t each xs ∙ (λ i. cond (list_all typed xs) (Ok (map-same xs i)) (Err t))

-- what is read, or other rows where a fault is
abbrev rows_or : Rows → Result Rows TableName → Rows
rows_or others (Ok rows) = rows
rows_or others (Err t) = others

module _ (R : Register) (known : StatesAreThePoints R) (ordered : ListsAreInOrder R) where
  abbrev said : PointRow → PointRead
  said p = point_said p (state_at R.states p)

  abbrev typed : PointRow → Bool
  typed p = is_typed_point p && is_id_or_none (PointState.hand (state_at R.states p))

  points_read : all_read read_point (map (λ p. jumper_row p (state_at R.states p)) (Grid.points R.net))
      ≡ cond (list_all typed (Grid.points R.net)) (Ok (map said (Grid.points R.net))) (Err table.NetworkPoint)
  points_read = all_back read_point (λ p. jumper_row p (state_at R.states p)) said typed table.NetworkPoint (λ p. point_reads p (state_at R.states p)) (Grid.points R.net)

  points_are : map (λ (p : PointRead). p.point) (map said (Grid.points R.net)) ≡ map (with_its_position R.states) (Grid.points R.net)
  points_are = map-map (λ (p : PointRead). p.point) said (Grid.points R.net)

  states_are : map (λ (p : PointRead). p.state) (map said (Grid.points R.net)) ≡ R.states
  states_are = map-map (λ (p : PointRead). p.state) said (Grid.points R.net) ∙ states_back R known ordered

  -- what is read, when each table reads
  abbrev found : Rows
  found = record {
    version = pos 2;
    sections = R.net.sections;
    points = map (λ (p : PointRead). p.point) (map said (Grid.points R.net));
    states = map (λ (p : PointRead). p.state) (map said (Grid.points R.net));
    staff = R.staff;
    records = R.records;
    steps = R.steps;
    holds = R.holds;
  }

  found_rows : found ≡ rows_of R
  found_rows i = record {
    version = pos 2;
    sections = R.net.sections;
    points = points_are i;
    states = states_are i;
    staff = R.staff;
    records = R.records;
    steps = R.steps;
    holds = R.holds;
  }

  -- the rows, or a fault, by which tables read
  read_by : (a : Bool) → all_read read_section (map section_row (Grid.sections R.net)) ≡ cond a (Ok (Grid.sections R.net)) (Err table.Section)
      → (b : Bool) → all_read read_point (map (λ p. jumper_row p (state_at R.states p)) (Grid.points R.net)) ≡ cond b (Ok (map said (Grid.points R.net))) (Err table.NetworkPoint)
      → (c : Bool) → all_read read_staff (map staff_row R.staff) ≡ cond c (Ok R.staff) (Err table.Staff)
      → (d : Bool) → all_read read_clearance (map clearance_row R.records) ≡ cond d (Ok R.records) (Err table.Clearance)
      → (e : Bool) → all_read read_step (map step_row R.steps) ≡ cond e (Ok R.steps) (Err table.Step)
      → (f : Bool) → all_read read_hold (map hold_row R.holds) ≡ cond f (Ok R.holds) (Err table.Hold)
      → rows_read (tables_of R)
      ≡ cond a (cond b (cond c (cond d (cond e (cond f (Ok found) (Err table.Hold)) (Err table.Step)) (Err table.Clearance)) (Err table.Staff)) (Err table.NetworkPoint)) (Err table.Section)
  unfolding rows_by read_version
  read_by false g b h c k d l e m f n = rw g refl
  read_by true g false h c k d l e m f n = rw (g, h) refl
  read_by true g true h false k d l e m f n = rw (g, h, k) refl
  read_by true g true h true k false l e m f n = rw (g, h, k, l) refl
  read_by true g true h true k true l false m f n = rw (g, h, k, l, m) refl
  read_by true g true h true k true l true m false n = rw (g, h, k, l, m, n) refl
  read_by true g true h true k true l true m true n = rw (g, h, k, l, m, n) refl

  read_is : rows_read (tables_of R)
      ≡ cond (list_all is_typed_section (Grid.sections R.net)) (cond (list_all typed (Grid.points R.net)) (cond (list_all is_typed_employee R.staff)
      (cond (list_all is_typed_record R.records) (cond (list_all is_typed_step R.steps) (cond (list_all is_typed_hold R.holds) (Ok found) (Err table.Hold)) (Err table.Step))
      (Err table.Clearance)) (Err table.Staff)) (Err table.NetworkPoint)) (Err table.Section)
  read_is = read_by
      (list_all is_typed_section (Grid.sections R.net)) (whole read_section section_row is_typed_section table.Section section_reads (Grid.sections R.net))
      (list_all typed (Grid.points R.net)) points_read
      (list_all is_typed_employee R.staff) (whole read_staff staff_row is_typed_employee table.Staff employee_reads R.staff)
      (list_all is_typed_record R.records) (whole read_clearance clearance_row is_typed_record table.Clearance record_reads R.records)
      (list_all is_typed_step R.steps) (whole read_step step_row is_typed_step table.Step step_reads R.steps)
      (list_all is_typed_hold R.holds) (whole read_hold hold_row is_typed_hold table.Hold hold_reads R.holds)

  points_typed : IsTyped R → list_all typed (Grid.points R.net) ≡ true
  points_typed is = both_tests is_typed_point is_typed_state (state_from R.states) (Grid.points R.net) is.points
      (subst (λ (states : List PointState). list_all is_typed_state states ≡ true) (sym (states_back R known ordered)) is.states)

  rows_back : IsTyped R → rows_read (tables_of R) ≡ Ok (rows_of R)
  rows_back is = read_is ∙ rw (is.sections, points_typed is, is.staff, is.records, is.steps, is.holds) (ap Ok found_rows)

  no_others : (rows : Rows) → (a b c d e f : Bool)
      → Ok rows ≡ cond a (cond b (cond c (cond d (cond e (cond f (Ok found) (Err table.Hold)) (Err table.Step)) (Err table.Clearance)) (Err table.Staff)) (Err table.NetworkPoint)) (Err table.Section)
      → rows ≡ rows_of R
  no_others rows false b c d e f is = cc
  no_others rows true false c d e f is = cc
  no_others rows true true false d e f is = cc
  no_others rows true true true false e f is = cc
  no_others rows true true true true false f is = cc
  no_others rows true true true true true false is = cc
  no_others rows true true true true true true is = ap (rows_or rows) is ∙ found_rows

pub tables_are_read : TablesAreRead
tables_are_read R known ordered is = rows_back R known ordered is

pub tables_read_as_no_others : TablesReadAsNoOthers
tables_read_as_no_others R rows known ordered read = no_others R known ordered rows (list_all is_typed_section (Grid.sections R.net)) (list_all (typed R known ordered) (Grid.points R.net))
    (list_all is_typed_employee R.staff) (list_all is_typed_record R.records) (list_all is_typed_step R.steps) (list_all is_typed_hold R.holds) (sym read ∙ read_is R known ordered)
