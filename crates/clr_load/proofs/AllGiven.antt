-- The seven tables read one after the other: what the whole reads as.
use Rattle.std.proofs.Common.{◌≡◌, ◌∙◌, ℤ, Ok, Err, List, [], ◌∷◌, map, Result, true, refl, sym, ap}
use Rattle.std.specs.Prelude.{is_ok}
use Rattle.sqlite.specs.Order.{Row}
use Rattle.sqlite_trees.proofs.ListLemmas.{map-map}
use Rattle.clr_net.specs.declared.point.PointRow.{PointRow}
use Rattle.clr_net.specs.declared.section.SectionRow.{SectionRow}
use Rattle.clr_net.specs.Results.{◌>>=◌}
use Rattle.clr_staff.specs.declared.employee.StaffRow.{StaffRow}
use Rattle.clr_rules.specs.Register.{Register}
use Rattle.clr_rules.specs.declared.hold.Hold.{Hold}
use Rattle.clr_rules.specs.declared.point_state.PointState.{PointState}
use Rattle.clr_rules.specs.declared.record.Record.{Record}
use Rattle.clr_rules.specs.declared.step_row.StepRow.{StepRow}
use Rattle.clr_load.specs.RowsRead.{PointRead as ReadPoint, Rows, all_read, read_clearance, read_hold, read_point, read_section, read_staff, read_step, read_version, rows_by, rows_of, rows_read}
use Rattle.clr_load.specs.Tables.{Tables}
use Rattle.clr_load.specs.declared.table_name.TableName.{TableName}
use Rattle.clr_load.specs.Contract.{GivesBack, GivesRows}
use Rattle.clr_load.specs.Filling.{GivesInto}
use Rattle.clr_load.specs.Reading.{in_fields, point_values}
use Rattle.clr_load.specs.declared.fault.StoreFault.{StoreFault}
use Rattle.clr_load.specs.declared.fault.StoreFault.TheVariants.{Sql, WrongVersion, BadRow, NoMemory, OtherTables}
use Rattle.clr_load.specs.declared.rows.Rows.{Rows as Loaded}
use Rattle.clr_load.specs.declared.table_row.PointRead.{PointRead}
use Rattle.clr_load.proofs.AllRead.{same_value}

-- a fault that is given into anything is given as rows
pub gives_rows : {X : Type 0} (has : X → Rows → Type 0) (read : Result Rows TableName) (fault : StoreFault) → GivesInto has read (Err fault) → GivesRows read (Err fault)
gives_rows has read Sql h = tt
gives_rows has read NoMemory h = tt
gives_rows has read (BadRow t) h = h
gives_rows has read (WrongVersion n) h = absurd h
gives_rows has read OtherTables h = absurd h

-- tables that read as the rows of a register give these rows
pub gives_back : (R : Register) (read : Result Rows TableName) (result : Result Loaded StoreFault) → read ≡ Ok (rows_of R)
    → GivesRows read result → GivesBack R result
gives_back R read (Ok rows) is gives = same_value (sym gives ∙ is)
gives_back R read (Err Sql) is gives = tt
gives_back R read (Err NoMemory) is gives = tt
gives_back R read (Err (BadRow t)) is gives = let h : Ok (rows_of R) ≡ Err t = sym is ∙ gives in absurd cc
gives_back R read (Err (WrongVersion n)) is gives = absurd gives
gives_back R read (Err OtherTables) is gives = absurd gives

-- ---- switching points, whose rows are read into two fields
abbrev all_viewed : {A B : Type 0} → (A → B) → Result (List A) TableName → Result (List B) TableName
all_viewed view read = read >>= λ xs. Ok (map view xs)

abbrev front_viewed : {A B : Type 0} → (A → B) → Result A TableName → Result (List B) TableName → Result (List B) TableName
front_viewed view first rest = (first >>= λ p. Ok (view p)) >>= λ x. rest >>= λ xs. Ok (x ∷ xs)

module _ {A B : Type 0} (view : A → B) where
  views_join : (first : Result A TableName) (rest : Result (List A) TableName)
      → front_viewed view first (all_viewed view rest) ≡ all_viewed view (first >>= λ p. rest >>= λ ps. Ok (p ∷ ps))
  views_join (Err t) rest = refl
  views_join (Ok p) (Err t) = refl
  views_join (Ok p) (Ok ps) = refl

  views_read : (read : Row → Result A TableName) (rows : List Row) → all_read (λ row. read row >>= λ p. Ok (view p)) rows ≡ all_viewed view (all_read read rows)
  unfolding all_read
  views_read read [] = refl
  views_read read (row ∷ rows) =
      ap (front_viewed view (read row)) (views_read read rows) ∙ views_join (read row) (all_read read rows)

  view_fails : (read : Result (List A) TableName) (t : TableName) → all_viewed view read ≡ Err t → read ≡ Err t
  view_fails (Ok points) t h = absurd cc
  view_fails (Err other) t h = let same : other ≡ t = cc in ap Err same

  view_gives : (read : Result (List A) TableName) (ys : List B) → all_viewed view read ≡ Ok ys → is_ok read ≡ true
  view_gives (Ok points) ys h = refl
  view_gives (Err other) ys h = absurd cc

  -- rows whose view does not read do not read themselves, and rows whose view reads do
  pub rows_fail : (read : Row → Result A TableName) (rows : List Row) (t : TableName)
      → all_read (λ row. read row >>= λ p. Ok (view p)) rows ≡ Err t → all_read read rows ≡ Err t
  rows_fail read rows t h = view_fails (all_read read rows) t (sym (views_read read rows) ∙ h)

  pub rows_give : (read : Row → Result A TableName) (rows : List Row) (ys : List B)
      → all_read (λ row. read row >>= λ p. Ok (view p)) rows ≡ Ok ys → is_ok (all_read read rows) ≡ true
  rows_give read rows ys h = view_gives (all_read read rows) ys (sym (views_read read rows) ∙ h)

pub points_fail : (rows : List Row) (t : TableName) → all_read point_values rows ≡ Err t → all_read read_point rows ≡ Err t
points_fail rows t h = rows_fail in_fields read_point rows t h

pub record PointsAre (read : Result (List ReadPoint) TableName) (both : List PointRead) : Type 0 where
  pub points : List ReadPoint
  pub read_is : read ≡ Ok points
  pub both_are : both ≡ map in_fields points

fields_are : (read : Result (List ReadPoint) TableName) (both : List PointRead) → all_viewed in_fields read ≡ Ok both → PointsAre read both
fields_are (Ok points) both h = record { points = points; read_is = refl; both_are = sym (same_value h) }
fields_are (Err t) both h = absurd cc

pub points_are : (rows : List Row) (both : List PointRead) → all_read point_values rows ≡ Ok both → PointsAre (all_read read_point rows) both
points_are rows both h = fields_are (all_read read_point rows) both (sym (views_read in_fields read_point rows) ∙ h)

-- ---- the seven in their order
abbrev pub rows_joined : Result ℤ TableName → Result (List SectionRow) TableName → Result (List ReadPoint) TableName
    → Result (List StaffRow) TableName → Result (List Record) TableName → Result (List StepRow) TableName
    → Result (List Hold) TableName → Result Rows TableName
rows_joined v s p e r w h = do
  version ← v
  sections ← s
  points ← p
  staff ← e
  records ← r
  steps ← w
  holds ← h
  Ok (record {
    version = version;
    sections = sections;
    points = map (λ (q : ReadPoint). q.point) points;
    states = map (λ (q : ReadPoint). q.state) points;
    staff = staff;
    records = records;
    steps = steps;
    holds = holds;
  })

pub joined : (t : Tables) → rows_read t ≡ rows_joined (read_version t.meta) (all_read read_section t.sections)
    (all_read read_point t.points) (all_read read_staff t.staff) (all_read read_clearance t.clearances)
    (all_read read_step t.steps) (all_read read_hold t.holds)
unfolding rows_by
joined t = refl

pub all_told : (t : Tables) (version : ℤ) (sections : List SectionRow) (points : List PointRow) (states : List PointState)
    (staff : List StaffRow) (records : List Record) (steps : List StepRow) (holds : List Hold) (both : List PointRead)
    → read_version t.meta ≡ Ok version → all_read read_section t.sections ≡ Ok sections
    → all_read point_values t.points ≡ Ok both → all_read read_staff t.staff ≡ Ok staff
    → all_read read_clearance t.clearances ≡ Ok records → all_read read_step t.steps ≡ Ok steps
    → all_read read_hold t.holds ≡ Ok holds
    → points ≡ map (λ (q : PointRead). q.point) both → states ≡ map (λ (q : PointRead). q.state) both
    → rows_read t ≡ Ok (record {
      version = version;
      sections = sections;
      points = points;
      states = states;
      staff = staff;
      records = records;
      steps = steps;
      holds = holds;
    })
all_told t version sections points states staff records steps holds both v s p e r w h points_is states_is =
    let them = points_are t.points both p in
    let at_points : map (λ (q : ReadPoint). q.point) them.points ≡ points =
    sym (points_is ∙ ap (map (λ (q : PointRead). q.point)) them.both_are
    ∙ map-map (λ (q : PointRead). q.point) in_fields them.points) in
    let at_states : map (λ (q : ReadPoint). q.state) them.points ≡ states =
    sym (states_is ∙ ap (map (λ (q : PointRead). q.state)) them.both_are
    ∙ map-map (λ (q : PointRead). q.state) in_fields them.points) in
    let all : rows_joined (read_version t.meta) (all_read read_section t.sections) (all_read read_point t.points)
    (all_read read_staff t.staff) (all_read read_clearance t.clearances) (all_read read_step t.steps)
    (all_read read_hold t.holds)
    ≡ rows_joined (Ok version) (Ok sections) (Ok them.points) (Ok staff) (Ok records) (Ok steps) (Ok holds) =
    λ i. rows_joined (v i) (s i) (them.read_is i) (e i) (r i) (w i) (h i) in
    let last : ◌≡◌ {A = Result Rows TableName}
    (Ok (record {
      version = version;
      sections = sections;
      points = map (λ (q : ReadPoint). q.point) them.points;
      states = map (λ (q : ReadPoint). q.state) them.points;
      staff = staff;
      records = records;
      steps = steps;
      holds = holds;
    }))
    (Ok (record {
      version = version;
      sections = sections;
      points = points;
      states = states;
      staff = staff;
      records = records;
      steps = steps;
      holds = holds;
    })) = λ i. Ok (record {
      version = version;
      sections = sections;
      points = at_points i;
      states = at_states i;
      staff = staff;
      records = records;
      steps = steps;
      holds = holds;
    }) in
    joined t ∙ all ∙ last
