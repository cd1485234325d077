-- The tables of version 1, moved, are those of version 2.
use Rattle.std.proofs.Common.{◌≡◌, Bool, true, false, not, List, [], ◌∷◌, ◌++◌, map, refl, sym}
use Rattle.std.specs.List.{list_all}
use Rattle.std.proofs.lemmas.Bool.{and_parts}
use Rattle.clr_net.specs.Grid.{Grid}
use Rattle.clr_net.specs.declared.point.PointRow.{PointRow}
use Rattle.sqlite_value.specs.Order.{value_cmp}
use Rattle.clr_shelf.specs.Rows.{with_row}
use Rattle.clr_rules.specs.declared.point_state.PointState.{PointState}
use Rattle.clr_load.specs.TableEdits.{with_table_row}
use Rattle.clr_load.specs.TableLaws.{TablesAreMoved}
use Rattle.clr_load.specs.Tables.{flag_value, jumper_row, point_row, state_at, tables_of, version_row}

is_false : (b : Bool) → not b ≡ true → b ≡ false
is_false true h = cc
is_false false h = refl

moved_points : (states : List PointState) (points : List PointRow) → list_all (λ p. not p.jumper) points ≡ true
    → map (λ row. row ++ flag_value false ∷ []) (map (λ p. point_row p (state_at states p)) points) ≡ map (λ p. jumper_row p (state_at states p)) points
moved_points states [] none = refl
moved_points states (p ∷ points) none =
    let (here, rest) = and_parts (not p.jumper) (list_all (λ p. not p.jumper) points) none in
    let mark : false ≡ p.jumper = sym (is_false p.jumper here) in
    let more = moved_points states points rest in
    λ i. (point_row p (state_at states p) ++ flag_value (mark i) ∷ []) ∷ more i

meta_moved : with_table_row 1 (version_row 2) (version_row 1 ∷ []) ≡ version_row 2 ∷ []
unfolding with_row value_cmp lib.Ieee.is_nan lib.Ieee.lt
meta_moved = refl

pub tables_are_moved : TablesAreMoved
tables_are_moved R none i = record (tables_of R) { meta = meta_moved i; points = moved_points R.states (Grid.points R.net) none i }
