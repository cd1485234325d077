-- What statements make of the table of the journal, inside a transaction.
use Rattle.std.proofs.Common.{◌≡◌, ◌∙◌, ℕ, List, [], ◌∷◌, true, false, None, Option, Some, Ok, Err, Result, ap, refl, subst, sym}
use Rattle.std.specs.Prelude.{MatchResult}
use Rattle.std.proofs.lemmas.Bool.{true≢false}
use Rattle.sqlite.specs.Effect.{Database}
use Rattle.sqlite.specs.Held.{state}
use Rattle.sqlite.specs.Order.{Row}
use Rattle.sqlite.specs.Schema.{Schema}
use Rattle.sqlite.specs.State.{ExecutesInside, KeepsCommit, State}
use Rattle.sqlite.specs.Store.{Ghosts}
use Rattle.sqlite.specs.Tree.{Trees}
use Rattle.sqlite.specs.declared.transaction.Transaction.{Transaction}
use Rattle.sqlite_schema.specs.Names.{same_name, table_named}
use Rattle.clr_load.specs.TableText.{table_text}
use Rattle.clr_load.specs.Tables.{Tables}
use Rattle.clr_load.specs.declared.table_name.TableName.{TableName}
use Rattle.clr_load.specs.declared.table_name.TableName.TheVariants.{Meta, Section, Point, Staff, Clearance, Step, Hold, NetworkPoint, Journal}
use Rattle.clr_load.specs.Fault.{IsOfDatabase}
use Rattle.clr_load.specs.Layout.{has_table, is_of_register, is_two, tree_in}
use Rattle.clr_load.specs.Schema.{columns_in, schema_in}
use Rattle.clr_load.specs.Sql.{insert_sql}
use Rattle.clr_load.specs.Stored.{ArePlaced, HasPlaceIn, HasRows, HasTables, Holds, IsPlaced, fits_columns, rows_in}
use Rattle.clr_load.specs.declared.fault.StoreFault.{StoreFault}
use Rattle.clr_load.specs.declared.layout.Layout.{Layout}
use Rattle.clr_load.specs.declared.layout.Layout.TheVariants.{AsMade, AsMadeLogged, AsMoved, AsMovedLogged, OfOne}
use Rattle.clr_load.proofs.Columns.{both_true}
use Rattle.clr_load.proofs.Inside.{then_runs}
use Rattle.clr_load.proofs.Loading.{in_layout, then_kept}
use Rattle.clr_load.proofs.Reopened.{placed_as}
use Rattle.clr_store.proofs.Effects.{Wrote, inserts}
use Rattle.clr_store.proofs.Inside.{put_in}
use Rattle.clr_store.proofs.Layouts.{apart}
use Rattle.clr_store.specs.Change.{Changes, ChangesAt, ChangesPlace, Does, DoesWith, PutsPlace, is_same}
use Rattle.clr_store.specs.Transaction.{PlacesAs}

-- ---- the tables of the register stay
not_own : (name : TableName) → is_of_register name ≡ true → is_same Journal name ≡ false
not_own Meta own = refl
not_own Section own = refl
not_own Point own = refl
not_own Staff own = refl
not_own Clearance own = refl
not_own Step own = refl
not_own Hold own = refl
not_own NetworkPoint own = refl
not_own Journal own = absurd cc

pub stays_with : (l : Layout) (old new : State) (tree : List Row) (t : Tables) → has_table l Journal ≡ true → Wrote l old new Journal tree → Holds l old.now t → Holds l new.now t
stays_with l old new tree t journal did has = record {
  schema = did.schema;
  listed = did.listed;
  rows = λ other there.
      let own = (both_true (is_of_register other) (has_table l other) there).0 in
      let table = in_layout l other there in
      subst (λ it. HasRows (columns_in other) it (rows_in l other t)) (sym (did.others other table (apart l Journal other journal table (not_own other own)))) (has.rows other there);
}

-- ---- statements
pub puts_row : (old new : State) (row : Row) (count : ℕ) → fits_columns (columns_in Journal) row ≡ true → ExecutesInside 0 (insert_sql Journal) row old new (Ok count)
    → ChangesPlace old new (λ rows. row ∷ rows)
puts_row old new row count fits ran = record {
  inside = ran.1.mode;
  kept = record { was_open = λ _. ran.1.was_open; committed = λ _. ran.1.committed_is };
  places = λ l two t has there rows placed.
      let did = inserts l old new Journal row count there has.schema fits ran.0 in
      let put = put_in (columns_in Journal) row (old.now.trees (tree_in l Journal)) rows fits did.1 placed in
      (stays_with l old new _ t there did.0 has, subst (λ tree. HasRows (columns_in Journal) tree (row ∷ rows)) (sym did.0.tree) put);
}

-- ---- calls in turn
place_step : {X : Type 0} (a b c : State) (f h : List Row → List Row) (r : Result X StoreFault) → ChangesPlace a b f → MatchResult r (λ _. ChangesPlace b c h) (λ _. KeepsCommit b c)
    → MatchResult r (λ _. ChangesPlace a c (λ rows. h (f rows))) (λ _. KeepsCommit a c)
place_step a b c f h (Ok x) p q = record {
  inside = q.inside;
  kept = then_kept a b c p.kept q.kept;
  places = λ l two t has there rows placed.
      let it = p.places l two t has there rows placed in
      q.places l two t it.0 there (f rows) it.1;
}
place_step a b c f h (Err e) p q = then_kept a b c p.kept q

pub then_place : {S X Y : Type 0} (g : Ghosts S) (a b c : Transaction S) (f h : List Row → List Row) (x : X) (r : Result Y StoreFault)
    → PutsPlace g a b f (Ok x) → PutsPlace g b c h r → PutsPlace g a c (λ rows. h (f rows)) r
then_place g a b c f h x r first second =
    then_runs g a b c IsOfDatabase IsOfDatabase IsOfDatabase _ _ _ _ _ _ x r first second (λ done. done.inside)
    (λ early done next. place_step (state g a.conn.now) (state g b.conn.now) (state g c.conn.now) f h r done next) (λ fault. fault)

-- the tables are changed, and then the place is set
at_step : {X : Type 0} (a b c : State) (f : Tables → Tables) (place : Row) (r : Result X StoreFault) → Changes a b f
    → MatchResult r (λ _. ChangesPlace b c (λ _. place ∷ [])) (λ _. KeepsCommit b c) → MatchResult r (λ _. ChangesAt a c f place) (λ _. KeepsCommit a c)
at_step a b c f place (Ok x) p q = record {
  inside = q.inside;
  kept = then_kept a b c p.kept q.kept;
  both = λ l two t has there rows placed.
      let still = subst (λ tree. HasRows (columns_in Journal) tree rows) (sym (p.place l two t has there)) placed in
      q.places l two (f t) (p.tables l two t has) there rows still;
}
at_step a b c f place (Err e) p q = then_kept a b c p.kept q

pub then_at : {S X Y : Type 0} (g : Ghosts S) (a b c : Transaction S) (f : Tables → Tables) (place : Row) (x : X) (r : Result Y StoreFault)
    → Does g a b f (Ok x) → PutsPlace g b c (λ _. place ∷ []) r → DoesWith g a c f (Some place) r
then_at g a b c f place x r first second =
    then_runs g a b c IsOfDatabase IsOfDatabase IsOfDatabase _ _ _ _ _ _ x r first second (λ done. done.inside)
    (λ early done next. at_step (state g a.conn.now) (state g b.conn.now) (state g c.conn.now) f place r done next) (λ fault. fault)

-- ---- a transaction
-- a register without the table of the journal has no table of that name
pub journal_there : (l : Layout) → is_two l ≡ true → (db : Database) → db.schema ≡ schema_in l → (table_named db.schema (table_text Journal) ≡ None → ⊥) → has_table l Journal ≡ true
unfolding same_name
journal_there OfOne two db is named = absurd cc
journal_there AsMade two db is named = absurd (named (ap (λ (s : Schema). table_named s (table_text Journal)) is))
journal_there AsMoved two db is named = absurd (named (ap (λ (s : Schema). table_named s (table_text Journal)) is))
journal_there AsMadeLogged two db is named = refl
journal_there AsMovedLogged two db is named = refl

-- a layout with that table has a place in it
some_place : (l : Layout) (trees : Trees) → has_table l Journal ≡ true → IsPlaced l trees → (place : Row) × HasPlaceIn l trees (Some place)
some_place l trees there (None, none) = absurd (true≢false (sym there ∙ none))
some_place l trees there (Some place, has) = (place, has)

-- the rows are changed, and the place is there
pub placed_at : (old new : State) (change : Tables → Tables) (place : Row) (t : Tables) (has : HasTables old.now t) → (table_named old.now.schema (table_text Journal) ≡ None → ⊥)
    → ChangesAt old new change place → Holds (HasTables.layout has) new.now (change t) × IsPlaced (HasTables.layout has) new.now.trees × ArePlaced new.now.trees (Some place)
placed_at old new change place t has named changes =
    let l = HasTables.layout has in
    let here = HasTables.here has in
    let there = journal_there l has.two old.now here.holds.schema named in
    let had = some_place l old.now.trees there here.placed in
    let it = changes.both l has.two t here.holds there (had.0 ∷ []) had.1.1 in
    (it.0, (Some place, (there, it.1)), record { layout = l; two = has.two; listed = it.0.listed; placed = (there, it.1) })

-- a change of the tables leaves the place
pub keeps_place : (old new : State) (f : Tables → Tables) → Changes old new f → (t : Tables) → HasTables old.now t → PlacesAs None old.now.trees new.now.trees
keeps_place old new f changes t has place are =
    let l = HasTables.layout has in
    let here = HasTables.here has in
    let was = placed_as old.now.trees l here.holds.listed place are in
    let now = changes.tables l has.two t here.holds in
    record { layout = l; two = has.two; listed = now.listed; placed = still place was (changes.place l has.two t here.holds) }
  where
    still : (place : Option Row) → HasPlaceIn (HasTables.layout has) old.now.trees place
        → (has_table (HasTables.layout has) Journal ≡ true → new.now.trees (tree_in (HasTables.layout has) Journal) ≡ old.now.trees (tree_in (HasTables.layout has) Journal))
        → HasPlaceIn (HasTables.layout has) new.now.trees place
    still None none same = none
    still (Some row) (there, rows) same = (there, subst (λ tree. HasRows (columns_in Journal) tree (row ∷ [])) (sym (same there)) rows)
