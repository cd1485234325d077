-- What the statements that make the tables do, and what the opening register's rows make of them.
use Rattle.std.proofs.Common.{◌≡◌, ◌+◌, ◌<◌, ◌≤◌, ℕ, List, [], ◌∷◌, ◌++◌, map, take, get_or, length, true, false, ◌&&◌, Some, None, unwrap_or, Ok, Err, Result, refl, sym, ap, subst, ◌∙◌, ◌⊎◌, inl, inr, IsTrue, append-nil, arith}
use Rattle.std.specs.Prelude.{MatchResult}
use Rattle.std.specs.List.{AllByRecursion, Contains, list_all}
use Rattle.std.specs.List.Sorted.{IsPermutation}
use Rattle.std.specs.Ordering.{is_lt, ordering_then}
use Rattle.std.specs.declared.cmp.Ordering.{Ordering}
use Rattle.std.specs.declared.cmp.Ordering.TheVariants.{Less, Equal, Greater}
use Rattle.std.proofs.lemmas.List.Sorted.{IsPermutation-refl, IsPermutation-trans, IsPermutation-middle, IsPermutation-sym}
use Rattle.std.proofs.lemmas.List.{get_or-map, length-map, take_all}
use Rattle.std.proofs.lemmas.List.Sums.{fold_more}
use Rattle.sqlite.specs.Change.{created, next_tree, KeepsRows}
use Rattle.sqlite.specs.Command.TheVariants.{CreateTable}
use Rattle.sqlite.specs.Does.{Tally, lacks_sequence}
use Rattle.sqlite.specs.Effect.{Database, IsDatabase}
use Rattle.sqlite.specs.Order.{Row, row_cmp, value_cmp}
use Rattle.sqlite.specs.Held.{state}
use Rattle.sqlite.specs.State.{State, Writes, KeepsCommit, ExecutesInside}
use Rattle.sqlite.specs.Store.{Ghosts}
use Rattle.sqlite.specs.declared.transaction.Transaction.{Transaction}
use Rattle.sqlite.specs.Tree.{Trees}
use Rattle.sqlite.specs.declared.types.Value.TheVariants.{Text}
use Rattle.sqlite.proofs.Callers.{runs_as}
use Rattle.sqlite_catalog.specs.Listing.{IsSound}
use Rattle.sqlite_schema.specs.declared.schema.Column.{Column}
use Rattle.sqlite_trees.proofs.ListLemmas.{all-append}
use Rattle.sqlite_value.proofs.OrderLemmas.{value_cmp-Text}
use Rattle.clr_net.specs.Grid.{Grid, IsNetwork, point_names, unplaced}
use Rattle.clr_net.specs.Name.{name_cmp}
use Rattle.clr_net.specs.declared.point.PointRow.{PointRow}
use Rattle.clr_staff.specs.Staff.{IsStaff}
use Rattle.clr_staff.specs.declared.employee.StaffRow.{StaffRow}
use Rattle.clr_shelf.proofs.Lists.{Contains-cases, Contains-here, Contains-later}
use Rattle.clr_shelf.proofs.Members.{row_of-member}
use Rattle.clr_shelf.specs.Rows.{in_key_order}
use Rattle.clr_rules.proofs.good.Opening.{in_key_order-from_sorted}
use Rattle.clr_rules.specs.Register.{first_state, opening}
use Rattle.clr_rules.specs.States.{state_key, state_of}
use Rattle.std.proofs.lemmas.Cmp.{nat_list_cmp_total}
use Rattle.clr_load.specs.Tables.{Tables, jumper_row, section_row, staff_row, state_at, tables_of}
use Rattle.clr_load.specs.declared.table_name.TableName.{TableName}
use Rattle.clr_load.specs.declared.table_name.TableName.TheVariants.{Meta, Section, Point, Staff, Clearance, Step, Hold, NetworkPoint, Journal}
use Rattle.clr_store.specs.Change.{Changes, ChangesPlace, Does, HasEmpty, Makes, Reaches, added, filled, opening_points, tables_with, with_rows}
use Rattle.clr_load.specs.Layout.{has_table, is_two, names_before, names_in, place_in, tree_in}
use Rattle.clr_load.specs.declared.layout.Layout.{Layout}
use Rattle.clr_load.specs.declared.layout.Layout.TheVariants.{AsMade, AsMadeLogged, AsMoved, AsMovedLogged, OfOne}
use Rattle.clr_load.specs.Schema.{columns_in, no_schema, schema_of, table_at, table_in}
use Rattle.clr_load.specs.Sql.{create_sql}
use Rattle.clr_load.specs.Stored.{HasEachRow, HasRows, ArePlaced, HasTables, Holds, IsInOrder, IsPlaced, rows_in}
use Rattle.clr_load.specs.declared.fault.StoreFault.{StoreFault}
use Rattle.clr_load.specs.Fault.{IsOfDatabase}
use Rattle.clr_load.proofs.Inside.{runs_none, runs_on, then_runs}
use Rattle.clr_store.proofs.Effects.{went}
use Rattle.clr_load.proofs.AllRead.{same_value}
use Rattle.clr_load.proofs.Loading.{in_layout, then_kept}
use Rattle.clr_store.proofs.Inside.{in_any_order, then_changes}
use Rattle.clr_load.proofs.Texts.{create_is, create_text, created_is, defines}
use Rattle.clr_store.proofs.Layouts.{all_at, named_at, nothing, rows_with, twice, two_rows}

-- ---- CREATE TABLE
still_empty : (l : Layout) (names : List TableName) (old new : Trees) → KeepsRows (map (table_in l) names) old new → AllByRecursion (λ name. old (tree_in l name) ≡ []) names
    → AllByRecursion (λ name. new (tree_in l name) ≡ []) names
still_empty l [] old new kept empty = tt
still_empty l (name ∷ names) old new kept empty = (kept.0 ∙ empty.0, still_empty l names old new kept.1 empty.1)

pub lacks : (l : Layout) (name : TableName) → has_table l name ≡ true → lacks_sequence (schema_of l (names_before l name ++ name ∷ [])) ≡ false
lacks OfOne Meta has = refl
lacks AsMade Meta has = refl
lacks AsMoved Meta has = refl
lacks AsMadeLogged Meta has = refl
lacks AsMovedLogged Meta has = refl
lacks OfOne Section has = refl
lacks AsMade Section has = refl
lacks AsMoved Section has = refl
lacks AsMadeLogged Section has = refl
lacks AsMovedLogged Section has = refl
lacks OfOne Point has = refl
lacks AsMade Point has = absurd cc
lacks AsMoved Point has = refl
lacks AsMadeLogged Point has = absurd cc
lacks AsMovedLogged Point has = refl
lacks OfOne Staff has = refl
lacks AsMade Staff has = refl
lacks AsMoved Staff has = refl
lacks AsMadeLogged Staff has = refl
lacks AsMovedLogged Staff has = refl
lacks OfOne Clearance has = refl
lacks AsMade Clearance has = refl
lacks AsMoved Clearance has = refl
lacks AsMadeLogged Clearance has = refl
lacks AsMovedLogged Clearance has = refl
lacks OfOne Step has = refl
lacks AsMade Step has = refl
lacks AsMoved Step has = refl
lacks AsMadeLogged Step has = refl
lacks AsMovedLogged Step has = refl
lacks OfOne Hold has = refl
lacks AsMade Hold has = refl
lacks AsMoved Hold has = refl
lacks AsMadeLogged Hold has = refl
lacks AsMovedLogged Hold has = refl
lacks OfOne NetworkPoint has = absurd cc
lacks AsMade NetworkPoint has = refl
lacks AsMoved NetworkPoint has = refl
lacks AsMadeLogged NetworkPoint has = refl
lacks AsMovedLogged NetworkPoint has = refl
lacks OfOne Journal has = absurd cc
lacks AsMade Journal has = absurd cc
lacks AsMoved Journal has = absurd cc
lacks AsMadeLogged Journal has = refl
lacks AsMovedLogged Journal has = refl

pub next_is : (l : Layout) (name : TableName) → has_table l name ≡ true → next_tree (schema_of l (names_before l name)) ≡ tree_in l name
next_is OfOne Meta has = refl
next_is AsMade Meta has = refl
next_is AsMoved Meta has = refl
next_is AsMadeLogged Meta has = refl
next_is AsMovedLogged Meta has = refl
next_is OfOne Section has = refl
next_is AsMade Section has = refl
next_is AsMoved Section has = refl
next_is AsMadeLogged Section has = refl
next_is AsMovedLogged Section has = refl
next_is OfOne Point has = refl
next_is AsMade Point has = absurd cc
next_is AsMoved Point has = refl
next_is AsMadeLogged Point has = absurd cc
next_is AsMovedLogged Point has = refl
next_is OfOne Staff has = refl
next_is AsMade Staff has = refl
next_is AsMoved Staff has = refl
next_is AsMadeLogged Staff has = refl
next_is AsMovedLogged Staff has = refl
next_is OfOne Clearance has = refl
next_is AsMade Clearance has = refl
next_is AsMoved Clearance has = refl
next_is AsMadeLogged Clearance has = refl
next_is AsMovedLogged Clearance has = refl
next_is OfOne Step has = refl
next_is AsMade Step has = refl
next_is AsMoved Step has = refl
next_is AsMadeLogged Step has = refl
next_is AsMovedLogged Step has = refl
next_is OfOne Hold has = refl
next_is AsMade Hold has = refl
next_is AsMoved Hold has = refl
next_is AsMadeLogged Hold has = refl
next_is AsMovedLogged Hold has = refl
next_is OfOne NetworkPoint has = absurd cc
next_is AsMade NetworkPoint has = refl
next_is AsMoved NetworkPoint has = refl
next_is AsMadeLogged NetworkPoint has = refl
next_is AsMovedLogged NetworkPoint has = refl
next_is OfOne Journal has = absurd cc
next_is AsMade Journal has = absurd cc
next_is AsMoved Journal has = absurd cc
next_is AsMadeLogged Journal has = refl
next_is AsMovedLogged Journal has = refl

pub makes_table : (l : Layout) (old new : State) (name : TableName) (count : ℕ) → has_table l name ≡ true → ExecutesInside 0 (create_sql name) [] old new (Ok count)
    → Makes old new (HasEmpty l (names_before l name)) (HasEmpty l (names_before l name ++ name ∷ []))
makes_table l old new name count there ran = record {
  inside = ran.1.mode;
  kept = record { was_open = λ _. ran.1.was_open; committed = λ _. ran.1.committed_is };
  sound = λ before. (writes before).sound;
  makes = λ before.
      let has = before.schema in
      let w = writes before in
      let all = went w.changed in
      let first = went all.1 in
      let made = first.1 in
      let both : Ok made.table ≡ Ok (table_at 0 name) = sym made.defined ∙ defines name in
      let same : made.table ≡ table_at 0 name = same_value both in
      let schema : first.0.schema ≡ schema_of l (names_before l name ++ name ∷ []) =
      made.is ∙ ap (λ s. created s made.table) has ∙ ap (created (schema_of l (names_before l name))) same ∙ created_is l name there in
      let plain : lacks_sequence first.0.schema ≡ false = ap lacks_sequence schema ∙ lacks l name there in
      let now : new.now ≡ first.0 = ap (λ (p : Tally × Database). p.1) (same_value all.2) ∙ same_value (rw plain at first.2) in
      let others = subst (λ s. KeepsRows s.tables old.now.trees first.0.trees) has made.others in
      let empty : first.0.trees (tree_in l name) ≡ [] = subst (λ tree. first.0.trees tree ≡ []) (ap next_tree has ∙ next_is l name there) made.empty in
      let trees = λ (n : ℕ). ap (λ (d : Database). d.trees n) now in
      record {
        schema = ap (λ (d : Database). d.schema) now ∙ schema;
        empty = all-append (λ other. new.now.trees (tree_in l other) ≡ []) (names_before l name) (name ∷ [])
            (moved (names_before l name) new.now.trees first.0.trees (ap (λ (d : Database). d.trees) now) (still_empty l (names_before l name) old.now.trees first.0.trees others before.empty))
            (trees (tree_in l name) ∙ empty, tt);
      };
}
  where
    writes : HasEmpty l (names_before l name) old.now → Writes old new None CreateTable (create_sql name) [] count
    writes before = subst (λ t. Writes old new None CreateTable t [] count) (create_text l name there)
        (runs_as (create_sql name) [] old new (schema_of l (names_before l name)) before.schema CreateTable (create_is l name there).is (create_is l name there).plain count ran.0)

    moved : (names : List TableName) (a b : Trees) → a ≡ b → AllByRecursion (λ name. b (tree_in l name) ≡ []) names → AllByRecursion (λ name. a (tree_in l name) ≡ []) names
    moved names a b same empty = subst (λ (t : Trees). AllByRecursion (λ name. t (tree_in l name) ≡ []) names) (sym same) empty

pub then_makes : (a b c : State) (F G H : Database → Type 0) → Makes a b F G → Makes b c G H → Makes a c F H
then_makes a b c F G H p q = record { inside = q.inside; kept = then_kept a b c p.kept q.kept; makes = λ has. q.makes (p.makes has); sound = λ has. q.sound (p.makes has) }

pub then_ends : {X : Type 0} (a b c : State) (F G H : Database → Type 0) (r : Result X StoreFault) → Makes a b F G → MatchResult r (λ _. Makes b c G H) (λ _. KeepsCommit b c)
    → MatchResult r (λ _. Makes a c F H) (λ _. KeepsCommit a c)
then_ends a b c F G H (Ok x) p q = then_makes a b c F G H p q
then_ends a b c F G H (Err e) p q = then_kept a b c p.kept q

pub then_reaches : {S X Y : Type 0} (g : Ghosts S) (a b c : Transaction S) (F G H : Database → Type 0) (x : X) (r : Result Y StoreFault)
    → Reaches g a b F G (Ok x) → Reaches g b c G H r → Reaches g a c F H r
then_reaches g a b c F G H x r first second =
    then_runs g a b c IsOfDatabase IsOfDatabase IsOfDatabase _ _ _ _ _ _ x r first second (λ made. made.inside)
    (λ early made next. then_ends (state g a.conn.now) (state g b.conn.now) (state g c.conn.now) F G H r made next) (λ fault. fault)

-- ---- rows put in front
pub added_more : (news rows : List Row) (k : ℕ) (row : Row) → k < length news → row ≡ get_or news k row → added (take (k + 1) news) rows ≡ row ∷ added (take k news) rows
added_more news rows k row within is = fold_more (λ had row. row ∷ had) rows news k row within ∙ ap (λ r. r ∷ added (take k news) rows) (sym is)

pub added_same : (news rows : List Row) → IsPermutation (news ++ rows) (added news rows)
added_same [] rows = IsPermutation-refl _
added_same (row ∷ news) rows = IsPermutation-trans _ _ _ (IsPermutation-sym _ _ (IsPermutation-middle news row rows)) (added_same news (row ∷ rows))

pub one_more_row : (old new : State) (name : TableName) (news : List Row) (k : ℕ) (row : Row) → has_table AsMade name ≡ true → k < length news → row ≡ get_or news k row
    → Changes old new (λ t. with_rows name (λ rows. row ∷ rows) (with_rows name (added (take k news)) t)) → Changes old new (with_rows name (added (take (k + 1) news)))
one_more_row old new name news k row here within is both = record {
  inside = both.inside;
  kept = both.kept;
  tables = λ l two t has. subst (Holds l new.now)
      (twice name here (λ rows. row ∷ rows) (added (take k news)) t ∙ ap (λ (f : List Row → List Row). with_rows name f t) (λ i rows. sym (added_more news rows k row within is) i))
      (both.tables l two t has);
  place = both.place;
}

-- one more of the items, each as its row
pub one_more_of : {A : Type 0} (old new : State) (name : TableName) (row : A → Row) (items : List A) (k : ℕ) (item : A) → has_table AsMade name ≡ true → k < length items → item ≡ get_or items k item
    → Changes old new (λ t. with_rows name (λ rows. row item ∷ rows) (with_rows name (added (take k (map row items))) t)) → Changes old new (with_rows name (added (take (k + 1) (map row items))))
one_more_of old new name row items k item here within is both =
    let long : k < length (map row items) = omega (arith, length-map items row) in
    one_more_row old new name (map row items) k (row item) here long (ap row is ∙ sym (get_or-map row items k item (row item) within)) both

-- the same of calls, of which the last added the row of the item
pub adds_more : {S A X : Type 0} (g : Ghosts S) (a b c : Transaction S) (name : TableName) (row : A → Row) (items : List A) (k : ℕ) (item : A) (x : X) → has_table AsMade name ≡ true
    → k < length items → item ≡ get_or items k item → Does {X = Unit {0}} g a b (with_rows name (added (take k (map row items)))) (Ok tt)
    → Does g b c (with_rows name (λ rows. row item ∷ rows)) (Ok x) → Does {X = Unit {0}} g a c (with_rows name (added (take (k + 1) (map row items)))) (Ok tt)
adds_more g a b c name row items k item x here within is first second =
    runs_on g a b c IsOfDatabase IsOfDatabase IsOfDatabase _ _ _ _ _ _ tt x tt first second (λ done. done.inside)
    (λ early done next.
    one_more_of (state g a.conn.now) (state g c.conn.now) name row items k item here within is
    (then_changes (state g a.conn.now) (state g b.conn.now) (state g c.conn.now) _ _ done next))

pub all_taken : {A : Type 0} (old new : State) (name : TableName) (row : A → Row) (items : List A) (k : ℕ) → length items ≤ k
    → Changes old new (with_rows name (added (take k (map row items)))) → Changes old new (with_rows name (added (map row items)))
all_taken old new name row items k whole changes =
    subst (λ l. Changes old new (with_rows name (added l))) (take_all k (map row items) (omega (arith, length-map items row))) changes

pub adds_all : {S A : Type 0} (g : Ghosts S) (a b : Transaction S) (name : TableName) (row : A → Row) (items : List A) (k : ℕ) → length items ≤ k
    → Does {X = Unit {0}} g a b (with_rows name (added (take k (map row items)))) (Ok tt) → Does {X = Unit {0}} g a b (with_rows name (added (map row items))) (Ok tt)
adds_all g a b name row items k whole it = record {
  same_reference = it.same_reference;
  step = λ clean inside. all_taken (state g a.conn.now) (state g b.conn.now) name row items k whole (it.step clean inside);
  fault = tt;
  survives = it.survives;
}

pub no_rows : (s : State) (name : TableName) → IsTrue s.in_transaction → Changes s s (with_rows name (added []))
no_rows s name inside = record {
  inside = inside;
  kept = record { was_open = λ is_open. is_open; committed = λ _. refl };
  tables = λ l two t has. subst (Holds l s.now) (sym (nothing name t)) has;
  place = λ l two t has there. refl;
}

pub adds_none : {S : Type 0} (g : Ghosts S) (tx : Transaction S) (name : TableName) → Does {X = Unit {0}} g tx tx (with_rows name (added [])) (Ok tt)
adds_none g tx name = runs_none g tx IsOfDatabase _ _ tt (λ inside. no_rows (state g tx.conn.now) name inside)

-- ---- the opening register
abbrev pub no_tables : Tables
no_tables = tables_with (λ _. [])

pub empty_rows : (columns : List Column) (tree : List Row) → tree ≡ [] → HasRows columns tree []
empty_rows columns tree empty = rw empty (record { same = IsPermutation-refl _; numbered = (tt, tt); fit = refl })

pub has_none : (l : Layout) → is_two l ≡ true → (db : Database) → HasEmpty l (names_in l) db → IsDatabase db → Holds l db no_tables
has_none l two db has sound = record {
  schema = has.schema;
  listed = subst (λ s. IsSound s db.trees) has.schema sound;
  rows = λ name there. subst (HasRows (columns_in name) (db.trees (tree_in l name))) (sym (two_rows l two name no_tables ∙ rows_with (λ _. []) refl refl name))
      (empty_rows (columns_in name) (db.trees (tree_in l name)) (all_at _ (names_in l) (place_in l name) name (named_at l name (in_layout l name there)) has.empty));
}

text_order : (a b : List ℕ) → row_cmp (Text a ∷ []) (Text b ∷ []) ≡ name_cmp a b
text_order a b = then_equal (value_cmp (Text a) (Text b)) ∙ value_cmp-Text a b
  where
    then_equal : (o : Ordering) → ordering_then o Equal ≡ o
    then_equal Less = refl
    then_equal Equal = refl
    then_equal Greater = refl

pub named_order : {A : Type 0} (key : A → List ℕ) (row : A → Row) → ((x : A) → take 1 (row x) ≡ Text (key x) ∷ []) → (xs : List A)
    → in_key_order row_cmp (take 1) (map row xs) ≡ in_key_order name_cmp key xs
named_order key row first [] = refl
named_order key row first (x ∷ xs) = λ i. above xs i && named_order key row first xs i
  where
    above : (rest : List _) → list_all (λ next. is_lt (row_cmp (take 1 (row x)) (take 1 next))) (map row rest) ≡ list_all (λ next. is_lt (name_cmp (key x) (key next))) rest
    above [] = refl
    above (next ∷ rest) = λ i. is_lt (((λ j. row_cmp (first x j) (first next j)) ∙ text_order (key x) (key next)) i) && above rest i

contains_mapped : {A B : Type 0} (f : A → B) (xs : List A) (x : A) → Contains xs x → Contains (map f xs) (f x)
contains_mapped f [] x h = absurd (grind arith)
contains_mapped f (y ∷ xs) x h = go (Contains-cases y x xs h) (contains_mapped f xs x)
  where
    go : (y ≡ x) ⊎ Contains xs x → (Contains xs x → Contains (map f xs) (f x)) → Contains (map f (y ∷ xs)) (f x)
    go (inl e) later = subst (λ z. Contains (map f (y ∷ xs)) (f z)) e (Contains-here (f y) (map f xs))
    go (inr more) later = Contains-later (f y) (f x) (map f xs) (later more)

first_keys : (points : List PointRow) → map state_key (map first_state points) ≡ point_names points
first_keys [] = refl
first_keys (p ∷ points) = ap (λ names. p.name ∷ names) (first_keys points)

-- each point's first state is the one that its name reads
points_first : (g : Grid) → IsNetwork g → (rest : List PointRow) → ((p : PointRow) → Contains rest p → Contains g.points p)
    → map (λ p. jumper_row p (state_at (map first_state g.points) p)) (map unplaced rest) ≡ opening_points rest
points_first g net [] within = refl
points_first g net (p ∷ rest) within =
    let ordered = in_key_order-from_sorted name_cmp state_key (map first_state g.points) (rw (first_keys g.points) net.points_rise) in
    let found : state_of (map first_state g.points) p.name ≡ Some (first_state p) =
    row_of-member name_cmp state_key nat_list_cmp_total (first_state p) (map first_state g.points) ordered (contains_mapped first_state g.points p (within p (Contains-here p rest))) in
    λ i. jumper_row (unplaced p) (unwrap_or (found i) (first_state (unplaced p))) ∷ points_first g net rest (λ q there. within q (Contains-later p q rest there)) i

-- the rows that are inserted are those of the opening register
pub fills : (l : Layout) → is_two l ≡ true → (db : Database) (g : Grid) (staff : List StaffRow) → IsNetwork g → IsStaff staff → IsPlaced l db.trees
    → Holds l db (filled g.sections g.points staff no_tables) → HasTables db (tables_of (opening g staff))
fills l two db g staff net is_staff placed has = record {
  layout = l;
  two = two;
  here = record { holds = record { schema = has.schema; listed = has.listed; rows = at }; in_order = ordered; placed = placed };
}
  where
    front : (name : TableName) (news : List Row) → HasRows (columns_in name) (db.trees (tree_in l name)) (added news []) → HasRows (columns_in name) (db.trees (tree_in l name)) news
    front name news there = in_any_order (columns_in name) (db.trees (tree_in l name)) (added news []) news
        (IsPermutation-sym _ _ (subst (λ l. IsPermutation l (added news [])) (append-nil news) (added_same news []))) there

    points : opening_points g.points ≡ rows_in AsMade NetworkPoint (tables_of (opening g staff))
    points = sym (points_first g net g.points (λ p there. there))

    no_points : (t : Tables) → rows_in l Point t ≡ []
    no_points t = two_rows l two Point t

    at : HasEachRow l db.trees (λ name. rows_in l name (tables_of (opening g staff)))
    at Meta there = has.rows Meta refl
    at Section there = front Section (map section_row g.sections) (has.rows Section refl)
    at Point there = subst (HasRows (columns_in Point) (db.trees (tree_in l Point))) (no_points (filled g.sections g.points staff no_tables) ∙ sym (no_points (tables_of (opening g staff)))) (has.rows Point there)
    at Staff there = front Staff (map staff_row staff) (has.rows Staff refl)
    at Clearance there = has.rows Clearance refl
    at Step there = has.rows Step refl
    at Hold there = has.rows Hold refl
    at NetworkPoint there = subst (HasRows (columns_in NetworkPoint) (db.trees (tree_in l NetworkPoint))) points (front NetworkPoint (opening_points g.points) (has.rows NetworkPoint there))
    at Journal there = absurd cc

    ordered : IsInOrder l (tables_of (opening g staff))
    ordered Meta = refl
    ordered Section = named_order (λ s. s.name) section_row (λ s. refl) g.sections ∙ in_key_order-from_sorted name_cmp (λ s. s.name) g.sections net.sections_rise
    ordered Point = ap (in_key_order row_cmp (take 1)) (no_points (tables_of (opening g staff)))
    ordered NetworkPoint =
        ap (in_key_order row_cmp (take 1)) (sym points)
        ∙ named_order (λ p. p.name) (λ p. jumper_row p (first_state p)) (λ p. refl) g.points ∙ in_key_order-from_sorted name_cmp (λ p. p.name) g.points net.points_rise
    ordered Staff = named_order (λ e. e.name) staff_row (λ e. refl) staff ∙ in_key_order-from_sorted name_cmp (λ e. e.name) staff is_staff.names_rise
    ordered Clearance = refl
    ordered Step = refl
    ordered Hold = refl
    ordered Journal = refl

pub whole : (a b c : State) (g : Grid) (staff : List StaffRow) → IsNetwork g → IsStaff staff → a.now.schema ≡ no_schema → Makes a b (HasEmpty AsMade []) (HasEmpty AsMade (names_in AsMade))
    → Changes b c (filled g.sections g.points staff) → HasTables c.now (tables_of (opening g staff))
whole a b c g staff net is_staff bare made changes =
    let none : HasEmpty AsMade [] a.now = record { schema = bare; empty = tt } in
    fills AsMade refl c.now g staff net is_staff (None, refl) (changes.tables AsMade refl no_tables (has_none AsMade refl b.now (made.makes none) (made.sound none)))

-- ---- the same with the table of the journal
-- the tables without it, and with it
pub journal_next : (db : Database) → HasEmpty AsMade (names_in AsMade) db → HasEmpty AsMadeLogged (names_before AsMadeLogged Journal) db
journal_next db has = record { schema = has.schema; empty = has.empty }

pub makes_journal : (old new : State) → Makes old new (HasEmpty AsMadeLogged (names_before AsMadeLogged Journal)) (HasEmpty AsMadeLogged (names_before AsMadeLogged Journal ++ Journal ∷ []))
    → Makes old new (HasEmpty AsMade (names_in AsMade)) (HasEmpty AsMadeLogged (names_in AsMadeLogged))
makes_journal old new made = record {
  inside = made.inside;
  kept = made.kept;
  makes = λ has. made.makes (journal_next old.now has);
  sound = λ has. made.sound (journal_next old.now has);
}

-- the table of the journal is empty until the place is put there
pub whole_placed : (a b c d : State) (g : Grid) (staff : List StaffRow) (place : Row) → IsNetwork g → IsStaff staff → a.now.schema ≡ no_schema
    → Makes a b (HasEmpty AsMade []) (HasEmpty AsMadeLogged (names_in AsMadeLogged)) → Changes b c (filled g.sections g.points staff) → ChangesPlace c d (λ rows. place ∷ rows)
    → HasTables d.now (tables_of (opening g staff)) × ArePlaced d.now.trees (Some place)
whole_placed a b c d g staff place net is_staff bare made changes put =
    let none : HasEmpty AsMade [] a.now = record { schema = bare; empty = tt } in
    let empty = has_none AsMadeLogged refl b.now (made.makes none) (made.sound none) in
    let no_place : b.now.trees (tree_in AsMadeLogged Journal) ≡ [] = all_at (λ name. b.now.trees (tree_in AsMadeLogged name) ≡ []) (names_in AsMadeLogged) (place_in AsMadeLogged Journal) Journal refl (made.makes none).empty in
    let still : c.now.trees (tree_in AsMadeLogged Journal) ≡ [] = changes.place AsMadeLogged refl no_tables empty refl ∙ no_place in
    let full = changes.tables AsMadeLogged refl no_tables empty in
    let it = put.places AsMadeLogged refl (filled g.sections g.points staff no_tables) full refl [] (empty_rows (columns_in Journal) (c.now.trees (tree_in AsMadeLogged Journal)) still) in (
      fills AsMadeLogged refl d.now g staff net is_staff (Some place, (refl, it.1)) it.0,
      record { layout = AsMadeLogged; two = refl; listed = it.0.listed; placed = (refl, it.1) },
    )
