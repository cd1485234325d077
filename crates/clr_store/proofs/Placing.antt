-- What one UPDATE of the position and the hand of a point makes of the table of points: both edits.
use Rattle.std.proofs.Common.{◌≡◌, ℕ, suc, List, [], ◌∷◌, ◌++◌, map, drop, take, Bool, true, false, if◌then◌else◌, Ok, None, Result, get_or, length, ◌-◌, ◌≤◌, arith, refl, sym, ap, subst, ◌∙◌}
use Rattle.std.specs.Prelude.{codes, slice_set}
use Rattle.std.specs.Ordering.{is_eq}
use Rattle.std.proofs.lemmas.List.{take_all}
use Rattle.sqlite.specs.Order.{Row, row_cmp}
use Rattle.sqlite.specs.State.{State, ExecutesInside}
use Rattle.sqlite.specs.Store.{Ghosts}
use Rattle.sqlite.specs.declared.transaction.Transaction.{Transaction}
use Rattle.sqlite.specs.Term.{Term, col, eval_all}
use Rattle.sqlite.specs.declared.types.Value.{Value}
use Rattle.sqlite.specs.declared.types.Value.TheVariants.{Null, Text}
use Rattle.sqlite.proofs.Callers.{IsPlain, command_of}
use Rattle.sqlite.specs.Listing.{understood}
use Rattle.sqlite.specs.Schema.{Schema}
use Rattle.sqlite_resolve.specs.Compile.{compiled}
use Rattle.sqlite_resolve.specs.declared.compiled.Compiled.{Compiled}
use Rattle.sqlite_tied.specs.Compute.{everything}
use Rattle.sqlite_trees.proofs.ListLemmas.{map-map}
use Rattle.clr_net.specs.declared.point.Position.{Position}
use Rattle.clr_rules.specs.declared.change.Edit.{Edit}
use Rattle.clr_rules.specs.declared.change.Edit.TheVariants.{SetPosition, SetHand}
use Rattle.clr_load.specs.TableEdits.{changed_point, handed_row, placed_row, table_edited, tables_edited}
use Rattle.clr_load.specs.Tables.{position_value}
use Rattle.clr_store.specs.Change.{Changes, Does}
use Rattle.clr_load.specs.Layout.{is_two}
use Rattle.clr_load.specs.declared.layout.Layout.{Layout}
use Rattle.clr_load.specs.declared.layout.Layout.TheVariants.{AsMade, AsMadeLogged, AsMoved, AsMovedLogged, OfOne}
use Rattle.clr_load.specs.Schema.{schema_in}
use Rattle.clr_load.specs.Stored.{Holds, fits_columns}
use Rattle.clr_load.specs.declared.fault.StoreFault.{StoreFault}
use Rattle.clr_load.proofs.Texts.{IsRead, all_of, terms_from, updating}
use Rattle.clr_store.proofs.Given.{position_fits}
use Rattle.clr_store.proofs.Inside.{first_stays, then_does}
use Rattle.clr_store.proofs.Updates.{fits_set, is_point, nine, point_columns, updates}

abbrev pub set_both_sql : List ℕ
set_both_sql = codes "UPDATE network_point SET position = ?2, hand_requester = ?3, hand_number = ?4 WHERE name = ?1"

abbrev both_terms : List Term
both_terms = terms_from 1 1 5 ++ col 0 1 ∷ col 0 2 ∷ col 0 3 ∷ terms_from 1 9 1

set_both_reads : (l : Layout) → is_two l ≡ true → compiled (schema_in l) set_both_sql ≡ Ok (all_of set_both_sql 4 (updating l both_terms))
unfolding everything
set_both_reads OfOne two = absurd cc
set_both_reads AsMade two = refl
set_both_reads AsMoved two = refl
set_both_reads AsMadeLogged two = refl
set_both_reads AsMovedLogged two = refl

pub understood_as : (schema : Schema) (sql : List ℕ) (c : Compiled) → compiled schema sql ≡ Ok c → understood schema sql ≡ Ok c
unfolding understood
understood_as schema sql c is = rw is refl

set_both_is : (l : Layout) → is_two l ≡ true → IsRead (schema_in l) set_both_sql (updating l both_terms)
set_both_is l two =
    let known = understood_as (schema_in l) set_both_sql (all_of set_both_sql 4 (updating l both_terms)) (set_both_reads l two) in
    record { is = ap command_of known; plain = subst IsPlain (sym known) (refl, refl) }

both_read : (point : List ℕ) (v w x : Value) (r : Row) → fits_columns point_columns (drop 1 r) ≡ true
    → eval_all both_terms ((Text point ∷ v ∷ w ∷ x ∷ []) ∷ r ∷ []) ≡ slice_set (slice_set (slice_set (drop 1 r) 5 v) 6 w) 7 x
both_read point v w x [] fits = absurd cc
both_read point v w x (id ∷ row) fits =
    subst (λ (body : Row). eval_all both_terms ((Text point ∷ v ∷ w ∷ x ∷ []) ∷ (id ∷ body) ∷ []) ≡ slice_set (slice_set (slice_set body 5 v) 6 w) 7 x) (nine row fits) refl

-- a change of the row of a point and then another are both at once, where the first keeps its name
changed_twice : (point : List ℕ) (f g : Row → Row) → ((row : Row) → take 1 (f row) ≡ take 1 row) → (rows : List Row)
    → changed_point point (λ row. g (f row)) rows ≡ changed_point point g (changed_point point f rows)
changed_twice point f g same rows = each rows ∙ sym (map-map (at g) (at f) rows)
  where
    at : (Row → Row) → Row → Row
    at change row = if is_point point row then change row else row

    one : (row : Row) (b : Bool) → is_point point row ≡ b → (if b then g (f row) else row) ≡ at g (if b then f row else row)
    one row true is = rw (ap (λ key. is_eq (row_cmp key (Text point ∷ []))) (same row) ∙ is) refl
    one row false is = rw is refl

    each : (rows : List Row) → map (at (λ row. g (f row))) rows ≡ map (λ row. at g (at f row)) rows
    each [] = refl
    each (row ∷ rows) = λ i. one row (is_point point row) refl i ∷ each rows i

pub sets_both : (old new : State) (point : List ℕ) (position : Position) (count : ℕ)
    → ExecutesInside 0 set_both_sql (Text point ∷ position_value position ∷ Null ∷ Null ∷ []) old new (Ok count)
    → Changes old new (λ t. table_edited (SetHand point None) (table_edited (SetPosition point position) t))
sets_both old new point position count ran =
    let set =
    updates point (position_value position ∷ Null ∷ Null ∷ []) both_terms (λ row. handed_row None (placed_row position row)) (both_read point (position_value position) Null Null)
    (λ row fits. fits_set point_columns (slice_set (placed_row position row) 6 Null) 7 Null
    (fits_set point_columns (placed_row position row) 6 Null (fits_set point_columns row 5 (position_value position) fits (position_fits position)) refl) refl)
    set_both_sql set_both_is old new count ran in
    record {
      inside = set.inside;
      kept = set.kept;
      tables = λ l two t has. subst (λ points. Holds l new.now (record t { points = points }))
          (changed_twice point (placed_row position) (handed_row None) (λ row. first_stays row 4 (position_value position)) t.points) (set.tables l two t has);
      place = set.place;
    }

-- ---- the first two edits of a list
two_first : (edits : List Edit) (x y : Edit) → 2 ≤ length edits → x ≡ get_or edits 0 x → y ≡ get_or edits 1 y → edits ≡ x ∷ y ∷ take (length edits - 2) (drop 2 edits)
two_first [] x y low first second = absurd (omega (arith, low))
two_first (a ∷ []) x y low first second = absurd (omega (arith, low))
two_first (a ∷ b ∷ rest) x y low first second = λ i. sym first i ∷ sym second i ∷ sym (take_all (suc (suc (length rest)) - 2) rest (omega arith)) i

pub freed_two : (edits : List Edit) (x y : Edit) (p q : List ℕ) (position : Position) → 2 ≤ length edits → x ≡ get_or edits 0 x → y ≡ get_or edits 1 y
    → x ≡ SetPosition p position → y ≡ SetHand q None → p ≡ q → edits ≡ SetPosition p position ∷ SetHand p None ∷ take (length edits - 2) (drop 2 edits)
freed_two edits x y p q position low first second set freed same =
    two_first edits x y low first second ∙ (λ i. set i ∷ (freed ∙ ap (λ name. SetHand name None) (sym same)) i ∷ take (length edits - 2) (drop 2 edits))

-- both edits are made, and then the others
pub then_each : {S X Y : Type 0} (g : Ghosts S) (a b c : Transaction S) (edits rest : List Edit) (point : List ℕ) (position : Position) (x : X) (r : Result Y StoreFault)
    → edits ≡ SetPosition point position ∷ SetHand point None ∷ rest
    → Does g a b (λ t. table_edited (SetHand point None) (table_edited (SetPosition point position) t)) (Ok x) → Does g b c (tables_edited rest) r → Does g a c (tables_edited edits) r
unfolding tables_edited
then_each g a b c edits rest point position x r is first second =
    subst (λ all. Does g a c (tables_edited all) r) (sym is)
    (then_does g a b c (λ t. table_edited (SetHand point None) (table_edited (SetPosition point position) t)) (tables_edited rest) x r first second)
