-- The tables of a layout, each at its place.
use Rattle.std.proofs.Common.{◌≡◌, ◌≢◌, ◌∙◌, ℕ, zero, suc, List, [], ◌∷◌, Bool, true, false, if◌then◌else◌, Some, slice_get, refl, sym, ap, subst, arith}
use Rattle.std.specs.Prelude.{option_map}
use Rattle.std.specs.List.{AllByRecursion}
use Rattle.std.specs.List.Sorted.{IsPermutation}
use Rattle.std.proofs.lemmas.List.Sorted.{IsPermutation-refl}
use Rattle.std.proofs.lemmas.Bool.{eq-eqb, eqb-true, true≢false}
use Rattle.std.proofs.lemmas.Option.{same_Some, slice_get-map}
use Rattle.sqlite.specs.Order.{Row}
use Rattle.sqlite.specs.Tree.{Trees}
use Rattle.clr_load.specs.Tables.{Tables}
use Rattle.clr_load.specs.declared.table_name.TableName.{TableName}
use Rattle.clr_load.specs.declared.table_name.TableName.TheVariants.{Meta, Section, Point, Staff, Clearance, Step, Hold, NetworkPoint, Journal}
use Rattle.clr_load.specs.Layout.{has_rows, has_table, is_of_register, is_two, names_in, place_in, tree_in}
use Rattle.clr_load.specs.declared.layout.Layout.{Layout}
use Rattle.clr_load.specs.declared.layout.Layout.TheVariants.{AsMade, AsMadeLogged, AsMoved, AsMovedLogged, OfOne}
use Rattle.clr_load.specs.Schema.{schema_in, table_in}
use Rattle.clr_load.specs.Stored.{rows_in}
use Rattle.clr_store.specs.Change.{change_at, is_same, rows_changed, tables_with, with_rows}

pub named_at : (l : Layout) (name : TableName) → has_table l name ≡ true → slice_get (names_in l) (place_in l name) ≡ Some name
named_at OfOne Meta has = refl
named_at AsMade Meta has = refl
named_at AsMoved Meta has = refl
named_at AsMadeLogged Meta has = refl
named_at AsMovedLogged Meta has = refl
named_at OfOne Section has = refl
named_at AsMade Section has = refl
named_at AsMoved Section has = refl
named_at AsMadeLogged Section has = refl
named_at AsMovedLogged Section has = refl
named_at OfOne Point has = refl
named_at AsMade Point has = absurd cc
named_at AsMoved Point has = refl
named_at AsMadeLogged Point has = absurd cc
named_at AsMovedLogged Point has = refl
named_at OfOne Staff has = refl
named_at AsMade Staff has = refl
named_at AsMoved Staff has = refl
named_at AsMadeLogged Staff has = refl
named_at AsMovedLogged Staff has = refl
named_at OfOne Clearance has = refl
named_at AsMade Clearance has = refl
named_at AsMoved Clearance has = refl
named_at AsMadeLogged Clearance has = refl
named_at AsMovedLogged Clearance has = refl
named_at OfOne Step has = refl
named_at AsMade Step has = refl
named_at AsMoved Step has = refl
named_at AsMadeLogged Step has = refl
named_at AsMovedLogged Step has = refl
named_at OfOne Hold has = refl
named_at AsMade Hold has = refl
named_at AsMoved Hold has = refl
named_at AsMadeLogged Hold has = refl
named_at AsMovedLogged Hold has = refl
named_at OfOne NetworkPoint has = absurd cc
named_at AsMade NetworkPoint has = refl
named_at AsMoved NetworkPoint has = refl
named_at AsMadeLogged NetworkPoint has = refl
named_at AsMovedLogged NetworkPoint has = refl
named_at OfOne Journal has = absurd cc
named_at AsMade Journal has = absurd cc
named_at AsMoved Journal has = absurd cc
named_at AsMadeLogged Journal has = refl
named_at AsMovedLogged Journal has = refl

-- what is true of all is true of the one at a place
pub all_at : {X : Type 0} (P : X → Type 0) (xs : List X) (k : ℕ) (x : X) → slice_get xs k ≡ Some x → AllByRecursion P xs → P x
all_at P [] k x at all = absurd cc
all_at P (y ∷ xs) zero x at all = subst P (same_Some _ _ at) all.0
all_at P (y ∷ xs) (suc k) x at all = all_at P xs k x at all.1

pub at_place : (l : Layout) (name : TableName) → has_table l name ≡ true → slice_get (schema_in l).tables (place_in l name) ≡ Some (table_in l name)
at_place l name there = slice_get-map (table_in l) (names_in l) (place_in l name) ∙ ap (option_map (table_in l)) (named_at l name there)

-- what an edit of one tree leaves of the tables in other trees
pub others_stay : (l : Layout) (next db : Trees) (tree : ℕ) → AllByRecursion (λ t. t.tree ≢ tree → next t.tree ≡ db t.tree) (schema_in l).tables
    → (other : TableName) → has_table l other ≡ true → tree_in l other ≢ tree → next (tree_in l other) ≡ db (tree_in l other)
others_stay l next db tree all other there = all_at _ (schema_in l).tables (place_in l other) (table_in l other) (at_place l other there) all

-- ---- version 2
-- its tables are in each of its layouts
pub in_two : (name : TableName) → has_table AsMade name ≡ true → (l : Layout) → is_two l ≡ true → has_table l name ≡ true
in_two name here OfOne two = absurd cc
in_two name here AsMade two = here
in_two Meta here AsMoved two = refl
in_two Section here AsMoved two = refl
in_two Point here AsMoved two = absurd cc
in_two Staff here AsMoved two = refl
in_two Clearance here AsMoved two = refl
in_two Step here AsMoved two = refl
in_two Hold here AsMoved two = refl
in_two NetworkPoint here AsMoved two = refl
in_two Journal here AsMoved two = absurd cc
in_two Meta here AsMadeLogged two = refl
in_two Section here AsMadeLogged two = refl
in_two Point here AsMadeLogged two = absurd cc
in_two Staff here AsMadeLogged two = refl
in_two Clearance here AsMadeLogged two = refl
in_two Step here AsMadeLogged two = refl
in_two Hold here AsMadeLogged two = refl
in_two NetworkPoint here AsMadeLogged two = refl
in_two Journal here AsMadeLogged two = absurd cc
in_two Meta here AsMovedLogged two = refl
in_two Section here AsMovedLogged two = refl
in_two Point here AsMovedLogged two = absurd cc
in_two Staff here AsMovedLogged two = refl
in_two Clearance here AsMovedLogged two = refl
in_two Step here AsMovedLogged two = refl
in_two Hold here AsMovedLogged two = refl
in_two NetworkPoint here AsMovedLogged two = refl
in_two Journal here AsMovedLogged two = absurd cc

-- and are tables of the register itself
of_register : (name : TableName) → has_table AsMade name ≡ true → is_of_register name ≡ true
of_register Meta here = refl
of_register Section here = refl
of_register Point here = absurd cc
of_register Staff here = refl
of_register Clearance here = refl
of_register Step here = refl
of_register Hold here = refl
of_register NetworkPoint here = refl
of_register Journal here = absurd cc

pub rows_in_two : (name : TableName) → has_table AsMade name ≡ true → (l : Layout) → is_two l ≡ true → has_rows l name ≡ true
rows_in_two name here l two = rw (of_register name here, in_two name here l two) refl

-- and have the same rows
pub two_rows : (l : Layout) → is_two l ≡ true → (name : TableName) (t : Tables) → rows_in l name t ≡ rows_in AsMade name t
two_rows OfOne two name t = absurd cc
two_rows AsMade two name t = refl
two_rows AsMoved two Meta t = refl
two_rows AsMoved two Section t = refl
two_rows AsMoved two Point t = refl
two_rows AsMoved two Staff t = refl
two_rows AsMoved two Clearance t = refl
two_rows AsMoved two Step t = refl
two_rows AsMoved two Hold t = refl
two_rows AsMoved two NetworkPoint t = refl
two_rows AsMoved two Journal t = refl
two_rows AsMadeLogged two Meta t = refl
two_rows AsMadeLogged two Section t = refl
two_rows AsMadeLogged two Point t = refl
two_rows AsMadeLogged two Staff t = refl
two_rows AsMadeLogged two Clearance t = refl
two_rows AsMadeLogged two Step t = refl
two_rows AsMadeLogged two Hold t = refl
two_rows AsMadeLogged two NetworkPoint t = refl
two_rows AsMadeLogged two Journal t = refl
two_rows AsMovedLogged two Meta t = refl
two_rows AsMovedLogged two Section t = refl
two_rows AsMovedLogged two Point t = refl
two_rows AsMovedLogged two Staff t = refl
two_rows AsMovedLogged two Clearance t = refl
two_rows AsMovedLogged two Step t = refl
two_rows AsMovedLogged two Hold t = refl
two_rows AsMovedLogged two NetworkPoint t = refl
two_rows AsMovedLogged two Journal t = refl

-- ---- one table of all
one_name : (l : Layout) (name other : TableName) → has_table l name ≡ true → has_table l other ≡ true → place_in l name ≡ place_in l other → name ≡ other
one_name l name other here there same = same_Some _ _ (sym (named_at l name here) ∙ ap (slice_get (names_in l)) same ∙ named_at l other there)

moved_has : (name : TableName) → has_table AsMovedLogged name ≡ true
moved_has Meta = refl
moved_has Section = refl
moved_has Point = refl
moved_has Staff = refl
moved_has Clearance = refl
moved_has Step = refl
moved_has Hold = refl
moved_has NetworkPoint = refl
moved_has Journal = refl

same_name : (name other : TableName) → is_same name other ≡ true → name ≡ other
same_name name other is = one_name AsMovedLogged name other (moved_has name) (moved_has other) (eqb-true _ _ is)

-- tables of other names lie in other trees
pub apart : (l : Layout) (name other : TableName) → has_table l name ≡ true → has_table l other ≡ true → is_same name other ≡ false → tree_in l other ≢ tree_in l name
apart l name other here there differ same =
    let one : name ≡ other = one_name l name other here there (omega (arith, same)) in
    true≢false (sym (eq-eqb _ _ (ap (place_in AsMovedLogged) one)) ∙ differ)

-- the rows of tables that are given by name
pub rows_with : (rows : TableName → List Row) → rows Point ≡ [] → rows Journal ≡ [] → (name : TableName) → rows_in AsMade name (tables_with rows) ≡ rows name
rows_with rows none no_place Meta = refl
rows_with rows none no_place Section = refl
rows_with rows none no_place Point = sym none
rows_with rows none no_place Staff = refl
rows_with rows none no_place Clearance = refl
rows_with rows none no_place Step = refl
rows_with rows none no_place Hold = refl
rows_with rows none no_place NetworkPoint = refl
rows_with rows none no_place Journal = sym no_place

-- `point` is no table of version 2
no_point : (name : TableName) → has_table AsMade name ≡ true → (change : List Row → List Row) (t : Tables) → rows_changed name change t Point ≡ []
no_point Meta here change t = refl
no_point Section here change t = refl
no_point Point here change t = absurd cc
no_point Staff here change t = refl
no_point Clearance here change t = refl
no_point Step here change t = refl
no_point Hold here change t = refl
no_point NetworkPoint here change t = refl
no_point Journal here change t = absurd cc

-- and the table of the journal has no row of the register
no_journal : (name : TableName) → has_table AsMade name ≡ true → (change : List Row → List Row) (t : Tables) → rows_changed name change t Journal ≡ []
no_journal Meta here change t = refl
no_journal Section here change t = refl
no_journal Point here change t = absurd cc
no_journal Staff here change t = refl
no_journal Clearance here change t = refl
no_journal Step here change t = refl
no_journal Hold here change t = refl
no_journal NetworkPoint here change t = refl
no_journal Journal here change t = absurd cc

pub not_journal : (name : TableName) → has_table AsMade name ≡ true → is_same name Journal ≡ false
not_journal Meta here = refl
not_journal Section here = refl
not_journal Point here = absurd cc
not_journal Staff here = refl
not_journal Clearance here = refl
not_journal Step here = refl
not_journal Hold here = refl
not_journal NetworkPoint here = refl
not_journal Journal here = absurd cc

module _ (name : TableName) (here : has_table AsMade name ≡ true) where
  changed_rows : (change : List Row → List Row) (t : Tables) (other : TableName) → rows_in AsMade other (with_rows name change t) ≡ rows_changed name change t other
  changed_rows change t other = rows_with (rows_changed name change t) (no_point name here change t) (no_journal name here change t) other

  -- what is true of the changed table, and of each other as it was, is true of all
  pub each_changed : (l : Layout) → is_two l ≡ true → (P : TableName → List Row → Type 0) (change : List Row → List Row) (t : Tables) → P name (change (rows_in l name t))
      → ((other : TableName) → is_same name other ≡ false → P other (rows_in l other t)) → (other : TableName) → P other (rows_in l other (with_rows name change t))
  each_changed l two P change t changed stays other =
      subst (P other) (sym (two_rows l two other (with_rows name change t) ∙ changed_rows change t other)) (go (is_same name other) refl)
    where
      go : (same : Bool) → is_same name other ≡ same → P other (if same then change (rows_in AsMade other t) else rows_in AsMade other t)
      go true is = subst (λ it. P it (change (rows_in AsMade it t))) (same_name name other is) (subst (λ rows. P name (change rows)) (two_rows l two name t) changed)
      go false is = subst (P other) (two_rows l two other t) (stays other is)

  -- ---- changes of one table
  -- one after the other
  pub twice : (f g : List Row → List Row) (t : Tables) → with_rows name f (with_rows name g t) ≡ with_rows name (λ l. f (g l)) t
  twice f g t i = tables_with (λ other. step other i)
    where
      at : (same : Bool) (rows : List Row) → (if same then f (if same then g rows else rows) else (if same then g rows else rows)) ≡ (if same then f (g rows) else rows)
      at true rows = refl
      at false rows = refl

      step : (other : TableName) → change_at name other f (rows_in AsMade other (with_rows name g t)) ≡ rows_changed name (λ l. f (g l)) t other
      step other = ap (change_at name other f) (changed_rows g t other) ∙ at (is_same name other) (rows_in AsMade other t)

  -- two that make the same rows, in any order
  pub same_rows : (l : Layout) → is_two l ≡ true → (f g : List Row → List Row) (t : Tables) → ((rows : List Row) → IsPermutation (f rows) (g rows))
      → (other : TableName) → IsPermutation (rows_in l other (with_rows name f t)) (rows_in l other (with_rows name g t))
  same_rows l two f g t same other =
      subst (λ rows. IsPermutation rows (rows_in l other (with_rows name g t))) (sym (two_rows l two other (with_rows name f t) ∙ changed_rows f t other))
      (subst (IsPermutation (rows_changed name f t other)) (sym (two_rows l two other (with_rows name g t) ∙ changed_rows g t other)) (at (is_same name other)))
    where
      at : (b : Bool) → IsPermutation (if b then f (rows_in AsMade other t) else rows_in AsMade other t) (if b then g (rows_in AsMade other t) else rows_in AsMade other t)
      at true = same (rows_in AsMade other t)
      at false = IsPermutation-refl _

-- one that changes nothing
pub nothing : (name : TableName) (t : Tables) → with_rows name (λ rows. rows) t ≡ t
nothing name t i = tables_with (λ other. at (is_same name other) (rows_in AsMade other t) i)
  where
    at : (same : Bool) (rows : List Row) → (if same then rows else rows) ≡ rows
    at true rows = refl
    at false rows = refl
