-- Tables of version 1 are made and filled, row by row, and have the register of JONES/1; and what a move makes of them.
use Rattle.std.proofs.Common.{◌≡◌, ◌∙◌, ℕ, Bool, true, false, if◌then◌else◌, List, [], ◌∷◌, ◌++◌, ap, append-nil, refl, slice_get, subst, sym, None}
use Rattle.std.proofs.Common.{Result, Ok, Err}
use Rattle.std.specs.Prelude.{MatchResult}
use Rattle.std.specs.List.Sorted.{IsPermutation}
use Rattle.std.proofs.lemmas.Bool.{eqb-true}
use Rattle.std.proofs.lemmas.List.Sorted.{IsPermutation-middle, IsPermutation-sym}
use Rattle.std.proofs.lemmas.Option.{same_Some}
use Rattle.sqlite.specs.Edit.{is_taken}
use Rattle.sqlite.specs.Effect.{Database, IsDatabase}
use Rattle.sqlite.specs.Held.{state}
use Rattle.sqlite.specs.Order.{Row}
use Rattle.sqlite.specs.State.{ExecutesInside, KeepsCommit, State}
use Rattle.sqlite.specs.Store.{Ghosts}
use Rattle.sqlite.specs.Tree.{put_row}
use Rattle.sqlite.specs.declared.transaction.Transaction.{Transaction}
use Rattle.sqlite_catalog.specs.Listing.{IsSound}
use Rattle.sqlite_value.specs.Order.{value_cmp}
use lib.Ieee.{is_nan, lt}
use Rattle.clr_rules.proofs.Common.{in_fence, reaches, row_of, with_row, without_row, new_steps, greatest_number, steps_in, steps_of, has_any_hold, has_some_hold, holds_of}
use Rattle.clr_rules.proofs.Common.{after_edits, touching_names, held_among, hindering_hold, first_of_each, places_of, after_all}
use Rattle.clr_rules.specs.declared.command.Command.{Command}
use Rattle.clr_examples.specs.Worked.{worked_opening}
use Rattle.clr_load.specs.Tables.{Tables, tables_by, version_one}
use Rattle.clr_load.specs.declared.table_name.TableName.{TableName}
use Rattle.clr_load.specs.declared.table_name.TableName.TheVariants.{Meta, Section, Point, Staff, Clearance, Step, Hold, NetworkPoint, Journal}
use Rattle.clr_load.proofs.Inside.{then_runs}
use Rattle.clr_load.proofs.Loading.{then_kept}
use Rattle.clr_load.specs.Fault.{IsOfDatabase}
use Rattle.clr_load.specs.Layout.{has_rows, has_table, names_in, place_in, tree_in}
use Rattle.clr_load.proofs.Loading.{in_layout}
use Rattle.clr_load.specs.Schema.{columns_in, no_schema}
use Rattle.clr_load.specs.Sql.{insert_sql}
use Rattle.clr_load.specs.Stored.{HasOldTables, HasRows, Holds, IsInOrder, Keeps, fits_columns, rows_in}
use Rattle.clr_load.specs.declared.fault.StoreFault.{StoreFault}
use Rattle.clr_load.specs.declared.layout.Layout.TheVariants.{AsMovedLogged, OfOne}
use Rattle.clr_store.specs.Change.{HasEmpty, Makes, is_same}
use Rattle.clr_store.proofs.Creating.{empty_rows}
use Rattle.clr_store.proofs.Effects.{Wrote, inserts, next_row}
use Rattle.clr_store.proofs.Inside.{in_any_order, put_in}
use Rattle.clr_store.proofs.Layouts.{all_at, apart, named_at}
use Rattle.clr_known.specs.Known.{jones_register}
use Rattle.clr_known.specs.OldTables.{Fills, FillsBy, HasOldJones, first_step_tables, with_one, with_tables}
use Rattle.clr_known.proofs.JonesRegister.{jones_commands, lines_ask}

-- ---- one row
has_all : (name : TableName) → has_table AsMovedLogged name ≡ true
has_all Meta = refl
has_all Section = refl
has_all Point = refl
has_all Staff = refl
has_all Clearance = refl
has_all Step = refl
has_all Hold = refl
has_all NetworkPoint = refl
has_all Journal = refl

-- version 1 has tables of the register alone
own_of_one : (name : TableName) → has_table OfOne name ≡ true → has_rows OfOne name ≡ true
own_of_one Meta here = refl
own_of_one Section here = refl
own_of_one Point here = refl
own_of_one Staff here = refl
own_of_one Clearance here = refl
own_of_one Step here = refl
own_of_one Hold here = refl
own_of_one NetworkPoint here = absurd cc
own_of_one Journal here = absurd cc

same_name : (name other : TableName) → is_same name other ≡ true → name ≡ other
same_name name other is =
    same_Some _ _ (sym (named_at AsMovedLogged name (has_all name)) ∙ ap (slice_get (names_in AsMovedLogged)) (eqb-true _ _ is) ∙ named_at AsMovedLogged other (has_all other))

after_all_had : (row : Row) (had : List Row) → IsPermutation (row ∷ had) (had ++ row ∷ [])
after_all_had row had = subst (λ (l : List Row). IsPermutation (row ∷ l) (had ++ row ∷ [])) (append-nil had) (IsPermutation-sym _ _ (IsPermutation-middle had row []))

module _ (old new : State) (name : TableName) (row : Row) (here : has_table OfOne name ≡ true) (fits : fits_columns (columns_in name) row ≡ true)
    (did : Wrote OfOne old new name (put_row (next_row (old.now.trees (tree_in OfOne name)) row) (old.now.trees (tree_in OfOne name))))
    (free : is_taken (old.now.trees (tree_in OfOne name)) (next_row (old.now.trees (tree_in OfOne name)) row) ≡ false)
    (had : TableName → List Row) (has : Keeps OfOne old.now had) where
  rows_at : (other : TableName) → has_rows OfOne other ≡ true → (same : Bool) → is_same name other ≡ same
      → HasRows (columns_in other) (new.now.trees (tree_in OfOne other)) (if same then had other ++ row ∷ [] else had other)
  rows_at other there true is =
      let put = put_in (columns_in name) row (old.now.trees (tree_in OfOne name)) (had name) fits free (has.rows name (own_of_one name here)) in
      let last = in_any_order (columns_in name) (put_row (next_row (old.now.trees (tree_in OfOne name)) row) (old.now.trees (tree_in OfOne name))) (row ∷ had name)
      (had name ++ row ∷ []) (after_all_had row (had name)) put in
      subst (λ (it : TableName). HasRows (columns_in it) (new.now.trees (tree_in OfOne it)) (had it ++ row ∷ [])) (same_name name other is)
      (subst (λ (tree : List Row). HasRows (columns_in name) tree (had name ++ row ∷ [])) (sym did.tree) last)
  rows_at other there false is =
      subst (λ (tree : List Row). HasRows (columns_in other) tree (had other)) (sym (did.others other (in_layout OfOne other there) (apart OfOne name other here (in_layout OfOne other there) is))) (has.rows other there)

  keeps_more : Keeps OfOne new.now (with_one name row had)
  keeps_more = record {
    schema = did.schema;
    listed = did.listed;
    rows = λ other there. rows_at other there (is_same name other) refl;
  }

-- a row is put after those of its table
pub puts_one : (old new : State) (name : TableName) (row : Row) (count : ℕ) → has_table OfOne name ≡ true → fits_columns (columns_in name) row ≡ true
    → ExecutesInside 0 (insert_sql name) row old new (Ok count) → Fills old new (with_one name row)
puts_one old new name row count here fits ran = record {
  inside = ran.1.mode;
  kept = record { was_open = λ _. ran.1.was_open; committed = λ _. ran.1.committed_is };
  rows = λ had has.
      let did = inserts OfOne old new name row count here has.schema fits ran.0 in
      keeps_more old new name row here fits did.0 did.1 had has;
}

-- ---- one call after another
then_fills : (a b c : State) (f h : (TableName → List Row) → TableName → List Row) → Fills a b f → Fills b c h → Fills a c (λ had. h (f had))
then_fills a b c f h p q = record { inside = q.inside; kept = then_kept a b c p.kept q.kept; rows = λ had has. q.rows (f had) (p.rows had has) }

then_some : {X : Type 0} (a b c : State) (f h : (TableName → List Row) → TableName → List Row) (r : Result X StoreFault) → Fills a b f
    → MatchResult r (λ _. Fills b c h) (λ _. KeepsCommit b c) → MatchResult r (λ _. Fills a c (λ had. h (f had))) (λ _. KeepsCommit a c)
then_some a b c f h (Ok x) p q = then_fills a b c f h p q
then_some a b c f h (Err e) p q = then_kept a b c p.kept q

pub then_by : {S X Y : Type 0} (g : Ghosts S) (a b c : Transaction S) (f h : (TableName → List Row) → TableName → List Row) (x : X) (r : Result Y StoreFault)
    → FillsBy g a b f (Ok x) → FillsBy g b c h r → FillsBy g a c (λ had. h (f had)) r
then_by g a b c f h x r first second =
    then_runs g a b c IsOfDatabase IsOfDatabase IsOfDatabase _ _ _ _ _ _ x r first second (λ done. done.inside)
    (λ early done next. then_some (state g a.conn.now) (state g b.conn.now) (state g c.conn.now) f h r done next) (λ fault. fault)

-- ---- the whole
has_none : (db : Database) → HasEmpty OfOne (names_in OfOne) db → IsDatabase db → Keeps OfOne db (λ _. [])
has_none db has sound = record {
  schema = has.schema;
  listed = subst (λ s. IsSound s db.trees) has.schema sound;
  rows = λ name there. empty_rows (columns_in name) (db.trees (tree_in OfOne name)) (all_at (λ (it : TableName). db.trees (tree_in OfOne it) ≡ []) (names_in OfOne) (place_in OfOne name) name (named_at OfOne name (in_layout OfOne name there)) has.empty);
}

holds_all : (db : Database) → Keeps OfOne db (with_tables first_step_tables (λ _. [])) → Holds OfOne db first_step_tables
holds_all db has = record { schema = has.schema; listed = has.listed; rows = at }
  where
    at : (name : TableName) → has_rows OfOne name ≡ true → HasRows (columns_in name) (db.trees (tree_in OfOne name)) (rows_in OfOne name first_step_tables)
    at Meta there = has.rows Meta there
    at Section there = has.rows Section there
    at Point there = has.rows Point there
    at Staff there = has.rows Staff there
    at Clearance there = has.rows Clearance there
    at Step there = has.rows Step there
    at Hold there = has.rows Hold there
    at NetworkPoint there = absurd cc
    at Journal there = absurd cc

ordered : IsInOrder OfOne first_step_tables
unfolding value_cmp is_nan lt
ordered Meta = refl
ordered Section = refl
ordered Point = refl
ordered Staff = refl
ordered Clearance = refl
ordered Step = refl
ordered Hold = refl
ordered NetworkPoint = refl
ordered Journal = refl

-- THE REGISTER OF JONES/1 IN VERSION 1, by its commands
tables_known : tables_by version_one (after_all worked_opening jones_commands) ≡ first_step_tables
unfolding in_fence reaches row_of with_row without_row new_steps greatest_number steps_in steps_of has_any_hold has_some_hold holds_of first_of_each places_of after_edits touching_names held_among hindering_hold after_all
tables_known = refl

pub tables_are : tables_by version_one jones_register ≡ first_step_tables
unfolding jones_register
tables_are = ap (λ (commands : List Command). tables_by version_one (after_all worked_opening commands)) lines_ask ∙ tables_known

pub made_whole : (a b c : State) → a.now.schema ≡ no_schema → Makes a b (HasEmpty OfOne []) (HasEmpty OfOne (names_in OfOne)) → Fills b c (with_tables first_step_tables)
    → HasOldJones c.now
made_whole a b c bare made fills =
    let empty : HasEmpty OfOne [] a.now = record { schema = bare; empty = tt } in
    let filled = fills.rows (λ _. []) (has_none b.now (made.makes empty) (made.sound empty)) in
    subst (λ (t : Tables). HasOldTables c.now t) (sym tables_are) (record { holds = holds_all c.now filled; in_order = ordered; placed = (None, refl) })
