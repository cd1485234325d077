-- What the rows that are listed say of a database that has a version.
use Rattle.std.proofs.Common.{◌≡◌, ◌∙◌, ℕ, List, [], ◌∷◌, Ok, Err, None, Option, Some, true, false, length, pos, slice_get, ap, refl, subst, sym}
use Rattle.std.proofs.lemmas.Bool.{true≢false}
use Rattle.std.specs.Prelude.{option_map, unwrap_or, ◌==◌, if◌then◌else◌}
use Rattle.sqlite.specs.Effect.{Database}
use Rattle.sqlite.specs.Order.{Row}
use Rattle.sqlite.specs.Schema.{Schema}
use Rattle.sqlite.specs.State.{Shown, State}
use Rattle.sqlite.specs.Table.{Table}
use Rattle.sqlite.specs.Tree.{Trees}
use Rattle.clr_rules.specs.declared.place.Place.{Place}
use Rattle.clr_net.specs.Results.{◌>>=◌}
use Rattle.clr_load.specs.RowsRead.{place_read, read_place, read_version}
use Rattle.clr_load.specs.Tables.{version_row}
use Rattle.clr_load.specs.Tables.{Tables}
use Rattle.clr_load.specs.declared.table_name.TableName.TheVariants.{Journal, Meta, Point}
use Rattle.clr_load.specs.Layout.{AsMade, AsMadeLogged, AsMoved, AsMovedLogged, Layout, OfOne, has_rows, has_table, is_moved}
use Rattle.clr_load.specs.Schema.{schema_in}
use Rattle.clr_load.specs.Cause.{SqlHasCause}
use Rattle.clr_load.specs.Contract.{Gives, Yields}
use Rattle.clr_load.specs.declared.fault.StoreFault.{StoreFault}
use Rattle.clr_load.specs.declared.fault.StoreFault.TheVariants.{Sql, WrongVersion, BadRow, NoMemory, OtherTables}
use Rattle.clr_load.specs.Sql.{select_sql}
use Rattle.clr_load.specs.Stored.{HasMeta, HasPlaceIn, HasTablesIn, HasVersion, IsPlaced, rows_in}
use Rattle.clr_load.proofs.Loading.{has_meta, lists, lists_place}

-- one schema is of one layout: they differ in how many tables there are, and in the third
abbrev third_of : Schema → ℕ
third_of s = unwrap_or (option_map (λ (t : Table). length t.columns) (slice_get s.tables 2)) 0

abbrev marked : ℕ → ℕ → Layout
marked tables columns =
    if tables == 7 then (if columns == 8 then OfOne else AsMade)
    else (if tables == 8 then (if columns == 8 then AsMoved else AsMadeLogged) else AsMovedLogged)

abbrev layout_of : Schema → Layout
layout_of s = marked (length s.tables) (third_of s)

known_again : (l : Layout) → layout_of (schema_in l) ≡ l
known_again OfOne = refl
known_again AsMade = refl
known_again AsMoved = refl
known_again AsMadeLogged = refl
known_again AsMovedLogged = refl

pub one_layout : (l k : Layout) → schema_in l ≡ schema_in k → l ≡ k
one_layout l k same = sym (known_again l) ∙ ap layout_of same ∙ known_again k

pub meta_there : (l : Layout) → has_rows l Meta ≡ true
meta_there l = refl

-- `point` is a table of the layouts that a move leaves, and has no row of the register there
pub moved_point : (l : Layout) → is_moved l ≡ true → has_rows l Point ≡ true
moved_point OfOne moved = absurd cc
moved_point AsMade moved = absurd cc
moved_point AsMoved moved = refl
moved_point AsMadeLogged moved = absurd cc
moved_point AsMovedLogged moved = refl

pub moved_rows : (l : Layout) → is_moved l ≡ true → (t : Tables) → rows_in l Point t ≡ []
moved_rows OfOne moved t = absurd cc
moved_rows AsMade moved t = absurd cc
moved_rows AsMoved moved t = refl
moved_rows AsMadeLogged moved t = absurd cc
moved_rows AsMovedLogged moved t = refl

-- where there is the table of the journal, it has a row
pub some_place : (l : Layout) (trees : Trees) → has_table l Journal ≡ true → IsPlaced l trees → (place : Row) × HasPlaceIn l trees (Some place)
some_place l trees there (None, none) = absurd (true≢false (sym there ∙ none))
some_place l trees there (Some place, has) = (place, has)

version_told : (n : ℕ) → read_version (version_row n ∷ []) ≡ Ok (pos n)
unfolding read_version
version_told n = refl

module _ (old new : State) (n : ℕ) (has : HasVersion n old.now) where
  layout_is : (l : Layout) → old.now.schema ≡ schema_in l → HasVersion.layout has ≡ l
  layout_is l is = one_layout (HasVersion.layout has) l (sym has.here.holds.schema ∙ is)

  -- its `meta` is its one row,
  pub alone : (shown : List Row) → Shown (select_sql Meta) [] old new shown → (length shown ≡ 1) × (read_version shown ≡ Ok (pos n))
  alone shown ran =
      let rows = lists has.layout old new Meta has.tables shown (meta_there has.layout) has.here.holds has.here.in_order ran in
      subst (λ rows. (length rows ≡ 1) × (read_version rows ≡ Ok (pos n))) (sym (rows ∙ has.told)) (refl, version_told n)

  -- and a `point` that a move has emptied is empty
  pub emptied : (l : Layout) (shown : List Row) → is_moved l ≡ true → old.now.schema ≡ schema_in l → Shown (select_sql Point) [] old new shown → shown ≡ []
  emptied l shown moved is ran =
      let here = subst (λ k. HasTablesIn k old.now has.tables) (layout_is l is) has.here in
      lists l old new Point has.tables shown (moved_point l moved) here.holds here.in_order ran ∙ moved_rows l moved has.tables

-- the rows of `meta` of a database that has a version, and what they say
pub version_meta : (db : Database) (n : ℕ) (has : HasVersion n db) → HasMeta db (HasVersion.tables has).meta × (read_version (HasVersion.tables has).meta ≡ Ok (pos n))
version_meta db n has = (has_meta has.layout db has.tables has.here, subst (λ rows. read_version rows ≡ Ok (pos n)) (sym has.told) (version_told n))

-- so a version that was read is the one that it has
pub numbered_as : (n m : ℕ) (db : Database) → HasVersion n db → ((meta : List Row) → HasMeta db meta → read_version meta ≡ Ok (pos m)) → HasVersion m db
numbered_as n m db has told =
    let it = version_meta db n has in
    let both : Ok (pos n) ≡ Ok (pos m) = sym it.1 ∙ told (HasVersion.tables has).meta it.0 in
    let same : n ≡ m = cc in
    subst (λ k. HasVersion k db) same has

-- the journal's table has one row
pub one_row : (l : Layout) (old new : State) (shown : List Row) → has_table l Journal ≡ true → old.now.schema ≡ schema_in l → IsPlaced l old.now.trees
    → Shown (select_sql Journal) [] old new shown → length shown ≡ 1
one_row l old new shown there schema placed ran =
    let it = some_place l old.now.trees there placed in
    ap length (lists_place l old new it.0 shown schema it.1 ran)

-- a register without a journal has no place,
pub no_place_read : (l : Layout) (trees : Trees) (row : Option Row) → has_table l Journal ≡ false → HasPlaceIn l trees row → place_read row ≡ Ok None
no_place_read l trees None none has = refl
no_place_read l trees (Some row) none has = absurd (true≢false (sym has.0 ∙ none))

-- and that of one with a journal is what the row of its table reads as
module _ (l : Layout) (old new : State) (shown : List Row) (there : has_table l Journal ≡ true) (schema : old.now.schema ≡ schema_in l) (ran : Shown (select_sql Journal) [] old new shown) where
  pub place_given : (row : Option Row) (place : Place) → HasPlaceIn l old.now.trees row → ((one : Row) → shown ≡ one ∷ [] → read_place one ≡ Ok place) → place_read row ≡ Ok (Some place)
  place_given None place none only = absurd (true≢false (sym there ∙ none))
  place_given (Some one) place has only = ap (λ r. r >>= λ it. Ok (Some it)) (only one (lists_place l old new one shown schema has ran))

  pub place_fails : (row : Option Row) (fault : StoreFault) → HasPlaceIn l old.now.trees row → ((one : Row) → shown ≡ one ∷ [] → Yields {X = Place} (λ place. place) (read_place one) (Err fault))
      → Gives {X = Option Place} (λ place. place) (place_read row) (Err fault)
  place_fails None fault none only = absurd (true≢false (sym there ∙ none))
  place_fails (Some one) Sql has only = tt
  place_fails (Some one) NoMemory has only = tt
  place_fails (Some one) (BadRow table) has only = ap (λ r. r >>= λ it. Ok (Some it)) (only one (lists_place l old new one shown schema has ran))
  place_fails (Some one) (WrongVersion n) has only = absurd (only one (lists_place l old new one shown schema has ran))
  place_fails (Some one) OtherTables has only = absurd (only one (lists_place l old new one shown schema has ran))

  pub place_cause : (before after : State) (fault : StoreFault) → IsPlaced l old.now.trees → ((one : Row) → shown ≡ one ∷ [] → Yields {X = Place} (λ place. place) (read_place one) (Err fault))
      → SqlHasCause before after fault
  place_cause before after Sql placed only =
      let it = some_place l old.now.trees there placed in
      absurd (only it.0 (lists_place l old new it.0 shown schema it.1 ran))
  place_cause before after NoMemory placed only = tt
  place_cause before after (BadRow table) placed only = tt
  place_cause before after (WrongVersion n) placed only = tt
  place_cause before after OtherTables placed only = tt
