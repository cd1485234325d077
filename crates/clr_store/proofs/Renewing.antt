-- Network, staff and states that are replaced in the tables, in one transaction.
use Rattle.std.proofs.Common.{◌≡◌, ◌∙◌, ◌<◌, ℕ, List, [], ◌∷◌, map, take, get_or, length, true, not, Ok, Some, append-nil, refl, sym, ap, subst, arith}
use Rattle.std.specs.Prelude.{Contains, filter, unwrap_or}
use Rattle.std.specs.List.Sorted.{IsPermutation}
use Rattle.std.proofs.lemmas.List.{get_or-map, length-map}
use Rattle.std.proofs.lemmas.List.Elements.{Contains-get_or}
use Rattle.std.proofs.lemmas.List.Sorted.{IsPermutation-sym}
use Rattle.std.proofs.lemmas.Cmp.{nat_list_cmp_total}
use Rattle.sqlite.specs.Command.{Command}
use Rattle.sqlite.specs.Command.TheVariants.{Delete}
use Rattle.sqlite.specs.Effect.{Database}
use Rattle.sqlite.specs.Listing.{understood}
use Rattle.sqlite.specs.Order.{Row, row_cmp}
use Rattle.sqlite.specs.Schema.{Schema}
use Rattle.sqlite.specs.State.{State, ExecutesInside}
use Rattle.sqlite.specs.Term.{col}
use Rattle.sqlite.specs.Tree.{Trees}
use Rattle.sqlite.proofs.Callers.{IsPlain, command_of}
use Rattle.sqlite_resolve.specs.Compile.{compiled}
use Rattle.sqlite_resolve.specs.declared.compiled.Compiled.{Compiled}
use Rattle.sqlite_schema.specs.declared.schema.Column.{Column}
use Rattle.sqlite_tied.specs.Compute.{everything}
use Rattle.clr_net.specs.Grid.{Grid, IsNetwork, unplaced}
use Rattle.clr_net.specs.Name.{name_cmp}
use Rattle.clr_net.specs.declared.point.PointRow.{PointRow}
use Rattle.clr_rules.proofs.good.Opening.{in_key_order-from_sorted, unplaced_names}
use Rattle.clr_rules.specs.Register.{first_state}
use Rattle.clr_rules.specs.States.{state_key, state_of}
use Rattle.clr_rules.specs.declared.point_state.PointState.{PointState}
use Rattle.clr_shelf.proofs.Members.{row_of-member}
use Rattle.clr_shelf.specs.Rows.{in_key_order}
use Rattle.clr_staff.specs.Staff.{IsStaff}
use Rattle.clr_staff.specs.declared.employee.StaffRow.{StaffRow}
use Rattle.clr_load.specs.Tables.{Tables, jumper_row, section_row, staff_row, state_at}
use Rattle.clr_load.specs.declared.table_name.TableName.{TableName}
use Rattle.clr_load.specs.declared.table_name.TableName.TheVariants.{Meta, Section, Point, Staff, Clearance, Step, Hold, NetworkPoint, Journal}
use Rattle.clr_load.proofs.Texts.{IsRead, all_of, query_of}
use Rattle.clr_load.specs.Layout.{has_table, is_two, place_in, tree_in}
use Rattle.clr_load.specs.Schema.{columns_in, schema_in}
use Rattle.clr_load.specs.Stored.{HasEachRow, HasRows, HasTables, Holds, IsInOrder, IsPlaced, rows_in}
use Rattle.clr_load.specs.declared.layout.Layout.{Layout}
use Rattle.clr_load.specs.declared.layout.Layout.TheVariants.{AsMade, AsMadeLogged, AsMoved, AsMovedLogged, OfOne}
use Rattle.clr_store.proofs.Creating.{added_same, empty_rows, named_order}
use Rattle.clr_store.proofs.Effects.{deleted, is_met}
use Rattle.clr_store.proofs.Inside.{changed_to, in_any_order, runs_inside}
use Rattle.clr_store.proofs.Layouts.{in_two, rows_in_two}
use Rattle.clr_store.proofs.Turned.{Lands}
use Rattle.clr_store.specs.Change.{Changes, added, with_rows}
use Rattle.clr_store.specs.Renewed.{AreStatesOf, clear_sql, rows_in_state, rows_renewed, tables_renewed}

-- ---- DELETE of all rows
abbrev clearing : Layout → TableName → Command
clearing l name = Delete (place_in l name) (record { lets = []; body = query_of (tree_in l name) [] (col 1 0 ∷ []) [] })

clear_reads : (l : Layout) (name : TableName) → has_table l name ≡ true → compiled (schema_in l) (clear_sql name) ≡ Ok (all_of (clear_sql name) 0 (clearing l name))
unfolding everything
clear_reads OfOne Meta has = refl
clear_reads AsMade Meta has = refl
clear_reads AsMoved Meta has = refl
clear_reads AsMadeLogged Meta has = refl
clear_reads AsMovedLogged Meta has = refl
clear_reads OfOne Section has = refl
clear_reads AsMade Section has = refl
clear_reads AsMoved Section has = refl
clear_reads AsMadeLogged Section has = refl
clear_reads AsMovedLogged Section has = refl
clear_reads OfOne Point has = refl
clear_reads AsMade Point has = absurd cc
clear_reads AsMoved Point has = refl
clear_reads AsMadeLogged Point has = absurd cc
clear_reads AsMovedLogged Point has = refl
clear_reads OfOne Staff has = refl
clear_reads AsMade Staff has = refl
clear_reads AsMoved Staff has = refl
clear_reads AsMadeLogged Staff has = refl
clear_reads AsMovedLogged Staff has = refl
clear_reads OfOne Clearance has = refl
clear_reads AsMade Clearance has = refl
clear_reads AsMoved Clearance has = refl
clear_reads AsMadeLogged Clearance has = refl
clear_reads AsMovedLogged Clearance has = refl
clear_reads OfOne Step has = refl
clear_reads AsMade Step has = refl
clear_reads AsMoved Step has = refl
clear_reads AsMadeLogged Step has = refl
clear_reads AsMovedLogged Step has = refl
clear_reads OfOne Hold has = refl
clear_reads AsMade Hold has = refl
clear_reads AsMoved Hold has = refl
clear_reads AsMadeLogged Hold has = refl
clear_reads AsMovedLogged Hold has = refl
clear_reads OfOne NetworkPoint has = absurd cc
clear_reads AsMade NetworkPoint has = refl
clear_reads AsMoved NetworkPoint has = refl
clear_reads AsMadeLogged NetworkPoint has = refl
clear_reads AsMovedLogged NetworkPoint has = refl
clear_reads OfOne Journal has = absurd cc
clear_reads AsMade Journal has = absurd cc
clear_reads AsMoved Journal has = absurd cc
clear_reads AsMadeLogged Journal has = refl
clear_reads AsMovedLogged Journal has = refl

understood_as : (schema : Schema) (sql : List ℕ) (c : Compiled) → compiled schema sql ≡ Ok c → understood schema sql ≡ Ok c
unfolding understood
understood_as schema sql c is = rw is refl

clear_is : (l : Layout) (name : TableName) → has_table l name ≡ true → IsRead (schema_in l) (clear_sql name) (clearing l name)
clear_is l name has =
    let known = understood_as (schema_in l) (clear_sql name) (all_of (clear_sql name) 0 (clearing l name)) (clear_reads l name has) in
    record { is = ap command_of known; plain = subst IsPlain (sym known) (refl, refl) }

none_left : (tree : List Row) → filter (λ r. not (is_met [] [] r)) tree ≡ []
none_left [] = refl
none_left (r ∷ tree) = none_left tree

pub clears : (old new : State) (name : TableName) (count : ℕ) → has_table AsMade name ≡ true → ExecutesInside 0 (clear_sql name) [] old new (Ok count) → Changes old new (with_rows name (λ _. []))
clears old new name count here ran = runs_inside (clear_sql name) [] old new count _ ran (λ l two t has.
    let there = in_two name here l two in
    let did = deleted l old new name (clear_sql name) [] [] count there has.schema (clear_is l name there) (has.rows name (rows_in_two name here l two)).numbered ran.0 in
    changed_to l two old new name _ (λ _. []) t here did has (empty_rows (columns_in name) _ (none_left (old.now.trees (tree_in l name)))))

-- ---- each point has its state
pub state_there : (points : List PointRow) (states : List PointState) → AreStatesOf points states → in_key_order name_cmp state_key states ≡ true
    → (k : ℕ) (p : PointRow) (s : PointState) → k < length points → p ≡ get_or points k p → s ≡ get_or states k s → state_at states (unplaced p) ≡ s
state_there points states same ordered k p s within here at =
    let long : length states ≡ length points = sym (length-map states state_key) ∙ ap length same ∙ length-map points (λ (row : PointRow). row.name) in
    let inside : k < length states = omega (arith, long) in
    let keys : s.point ≡ p.name =
    ap state_key at ∙ sym (get_or-map state_key states k s p.name inside)
    ∙ ap (λ (names : List (List ℕ)). get_or names k p.name) same
    ∙ get_or-map (λ (row : PointRow). row.name) points k p p.name within ∙ ap (λ (row : PointRow). row.name) (sym here) in
    let member = subst (Contains states) (sym at) (Contains-get_or states k s inside) in
    let found : state_of states s.point ≡ Some s = row_of-member name_cmp state_key nat_list_cmp_total s states ordered member in
    ap (λ o. unwrap_or o (first_state (unplaced p))) (ap (state_of states) (sym keys) ∙ found)

-- states in the order of a network's points
pub states_ordered : (g : Grid) (states : List PointState) → IsNetwork g → AreStatesOf g.points states → in_key_order name_cmp state_key states ≡ true
states_ordered g states net same = in_key_order-from_sorted name_cmp state_key states (rw same net.points_rise)

-- ---- the rows put are those of the tables
in_state_is : (states : List PointState) (points : List PointRow) → rows_in_state states points ≡ map (λ p. jumper_row p (state_at states p)) (map unplaced points)
in_state_is states [] = refl
in_state_is states (p ∷ points) = ap (λ rows. jumper_row p (state_at states (unplaced p)) ∷ rows) (in_state_is states points)

front : (columns : List Column) (tree news : List Row) → HasRows columns tree (added news []) → HasRows columns tree news
front columns tree news there =
    in_any_order columns tree (added news []) news (IsPermutation-sym _ _ (subst (λ l. IsPermutation l (added news [])) (append-nil news) (added_same news []))) there

module _ (g : Grid) (staff : List StaffRow) (states : List PointState) (net : IsNetwork g) (is_staff : IsStaff staff) where
  points_put : (columns : List Column) (tree : List Row) → HasRows columns tree (added (rows_in_state states g.points) []) → HasRows columns tree (map (λ p. jumper_row p (state_at states p)) (map unplaced g.points))
  points_put columns tree there = subst (HasRows columns tree) (in_state_is states g.points) (front columns tree (rows_in_state states g.points) there)

  rows_put : (l : Layout) → is_two l ≡ true → (trees : Trees) (t : Tables) → HasEachRow l trees (λ name. rows_in l name (rows_renewed g.sections g.points states staff t))
      → HasEachRow l trees (λ name. rows_in l name (tables_renewed g staff states t))
  rows_put OfOne two trees t has name there = absurd cc
  rows_put AsMade two trees t has Meta there = has Meta there
  rows_put AsMade two trees t has Section there = front (columns_in Section) _ (map section_row g.sections) (has Section there)
  rows_put AsMade two trees t has Point there = absurd cc
  rows_put AsMade two trees t has Staff there = front (columns_in Staff) _ (map staff_row staff) (has Staff there)
  rows_put AsMade two trees t has Clearance there = has Clearance there
  rows_put AsMade two trees t has Step there = has Step there
  rows_put AsMade two trees t has Hold there = has Hold there
  rows_put AsMade two trees t has NetworkPoint there = points_put (columns_in NetworkPoint) _ (has NetworkPoint there)
  rows_put AsMade two trees t has Journal there = absurd cc
  rows_put AsMoved two trees t has Meta there = has Meta there
  rows_put AsMoved two trees t has Section there = front (columns_in Section) _ (map section_row g.sections) (has Section there)
  rows_put AsMoved two trees t has Point there = has Point there
  rows_put AsMoved two trees t has Staff there = front (columns_in Staff) _ (map staff_row staff) (has Staff there)
  rows_put AsMoved two trees t has Clearance there = has Clearance there
  rows_put AsMoved two trees t has Step there = has Step there
  rows_put AsMoved two trees t has Hold there = has Hold there
  rows_put AsMoved two trees t has NetworkPoint there = points_put (columns_in NetworkPoint) _ (has NetworkPoint there)
  rows_put AsMoved two trees t has Journal there = absurd cc
  rows_put AsMadeLogged two trees t has Meta there = has Meta there
  rows_put AsMadeLogged two trees t has Section there = front (columns_in Section) _ (map section_row g.sections) (has Section there)
  rows_put AsMadeLogged two trees t has Point there = absurd cc
  rows_put AsMadeLogged two trees t has Staff there = front (columns_in Staff) _ (map staff_row staff) (has Staff there)
  rows_put AsMadeLogged two trees t has Clearance there = has Clearance there
  rows_put AsMadeLogged two trees t has Step there = has Step there
  rows_put AsMadeLogged two trees t has Hold there = has Hold there
  rows_put AsMadeLogged two trees t has NetworkPoint there = points_put (columns_in NetworkPoint) _ (has NetworkPoint there)
  rows_put AsMadeLogged two trees t has Journal there = absurd cc
  rows_put AsMovedLogged two trees t has Meta there = has Meta there
  rows_put AsMovedLogged two trees t has Section there = front (columns_in Section) _ (map section_row g.sections) (has Section there)
  rows_put AsMovedLogged two trees t has Point there = has Point there
  rows_put AsMovedLogged two trees t has Staff there = front (columns_in Staff) _ (map staff_row staff) (has Staff there)
  rows_put AsMovedLogged two trees t has Clearance there = has Clearance there
  rows_put AsMovedLogged two trees t has Step there = has Step there
  rows_put AsMovedLogged two trees t has Hold there = has Hold there
  rows_put AsMovedLogged two trees t has NetworkPoint there = points_put (columns_in NetworkPoint) _ (has NetworkPoint there)
  rows_put AsMovedLogged two trees t has Journal there = absurd cc

  sections_ordered : in_key_order row_cmp (take 1) (map section_row g.sections) ≡ true
  sections_ordered = named_order (λ s. s.name) section_row (λ s. refl) g.sections ∙ in_key_order-from_sorted name_cmp (λ s. s.name) g.sections net.sections_rise

  points_ordered : in_key_order row_cmp (take 1) (map (λ p. jumper_row p (state_at states p)) (map unplaced g.points)) ≡ true
  points_ordered =
      named_order (λ p. p.name) (λ p. jumper_row p (state_at states p)) (λ p. refl) (map unplaced g.points)
      ∙ in_key_order-from_sorted name_cmp (λ p. p.name) (map unplaced g.points) (rw (unplaced_names g.points) net.points_rise)

  staff_ordered : in_key_order row_cmp (take 1) (map staff_row staff) ≡ true
  staff_ordered = named_order (λ e. e.name) staff_row (λ e. refl) staff ∙ in_key_order-from_sorted name_cmp (λ e. e.name) staff is_staff.names_rise

  renewed_in_order : (l : Layout) → is_two l ≡ true → (t : Tables) → IsInOrder l t → IsInOrder l (tables_renewed g staff states t)
  renewed_in_order OfOne two t ordered name = absurd cc
  renewed_in_order AsMade two t ordered Meta = ordered Meta
  renewed_in_order AsMade two t ordered Section = sections_ordered
  renewed_in_order AsMade two t ordered Point = refl
  renewed_in_order AsMade two t ordered Staff = staff_ordered
  renewed_in_order AsMade two t ordered Clearance = ordered Clearance
  renewed_in_order AsMade two t ordered Step = ordered Step
  renewed_in_order AsMade two t ordered Hold = ordered Hold
  renewed_in_order AsMade two t ordered NetworkPoint = points_ordered
  renewed_in_order AsMade two t ordered Journal = refl
  renewed_in_order AsMoved two t ordered Meta = ordered Meta
  renewed_in_order AsMoved two t ordered Section = sections_ordered
  renewed_in_order AsMoved two t ordered Point = refl
  renewed_in_order AsMoved two t ordered Staff = staff_ordered
  renewed_in_order AsMoved two t ordered Clearance = ordered Clearance
  renewed_in_order AsMoved two t ordered Step = ordered Step
  renewed_in_order AsMoved two t ordered Hold = ordered Hold
  renewed_in_order AsMoved two t ordered NetworkPoint = points_ordered
  renewed_in_order AsMoved two t ordered Journal = refl
  renewed_in_order AsMadeLogged two t ordered Meta = ordered Meta
  renewed_in_order AsMadeLogged two t ordered Section = sections_ordered
  renewed_in_order AsMadeLogged two t ordered Point = refl
  renewed_in_order AsMadeLogged two t ordered Staff = staff_ordered
  renewed_in_order AsMadeLogged two t ordered Clearance = ordered Clearance
  renewed_in_order AsMadeLogged two t ordered Step = ordered Step
  renewed_in_order AsMadeLogged two t ordered Hold = ordered Hold
  renewed_in_order AsMadeLogged two t ordered NetworkPoint = points_ordered
  renewed_in_order AsMadeLogged two t ordered Journal = refl
  renewed_in_order AsMovedLogged two t ordered Meta = ordered Meta
  renewed_in_order AsMovedLogged two t ordered Section = sections_ordered
  renewed_in_order AsMovedLogged two t ordered Point = refl
  renewed_in_order AsMovedLogged two t ordered Staff = staff_ordered
  renewed_in_order AsMovedLogged two t ordered Clearance = ordered Clearance
  renewed_in_order AsMovedLogged two t ordered Step = ordered Step
  renewed_in_order AsMovedLogged two t ordered Hold = ordered Hold
  renewed_in_order AsMovedLogged two t ordered NetworkPoint = points_ordered
  renewed_in_order AsMovedLogged two t ordered Journal = refl

  renewed_tables : (l : Layout) → is_two l ≡ true → (db : Database) (t : Tables) → IsInOrder l t → Holds l db (rows_renewed g.sections g.points states staff t) → IsPlaced l db.trees
      → HasTables db (tables_renewed g staff states t)
  renewed_tables l two db t ordered has placed = record {
    layout = l;
    two = two;
    here = record { holds = record { schema = has.schema; listed = has.listed; rows = rows_put l two db.trees t has.rows }; in_order = renewed_in_order l two t ordered; placed = placed };
  }

  pub renewal_lands : Lands (rows_renewed g.sections g.points states staff) (tables_renewed g staff states)
  renewal_lands l two db t ordered has placed = renewed_tables l two db t ordered has placed
