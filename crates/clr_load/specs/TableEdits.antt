-- WHAT EDITS AND A MOVE TO VERSION 2 DO TO TABLES, of any content. To put a row is to replace the row of its key; all other
-- rows stay.
use Rattle.std.specs.Prelude.{ℕ, false, if◌then◌else◌, List, [], ◌∷◌, ◌++◌, map, take, slice_set}
use Rattle.std.specs.Prelude.{Option}
use Rattle.std.specs.Ordering.{is_eq}
use Rattle.sqlite.specs.Order.{Row, column, row_cmp}
use Rattle.sqlite.specs.declared.types.Value.TheVariants.{Text}
use Rattle.clr_net.specs.Grid.{unplaced}
use Rattle.clr_net.specs.declared.point.PointRow.{PointRow}
use Rattle.clr_net.specs.declared.point.Position.{Position}
use Rattle.clr_shelf.specs.Rows.{with_row, without_row}
use Rattle.clr_rules.specs.Id.{Id}
use Rattle.clr_rules.specs.Register.{first_state}
use Rattle.clr_rules.specs.declared.change.Edit.{Edit}
use Rattle.clr_rules.specs.declared.change.Edit.TheVariants.{SetPosition, SetHand, PutHold}
use Rattle.clr_rules.specs.declared.change.Edit.TheVariants.{TakeHold, PutRecord, PutStep}
use Rattle.clr_rules.specs.declared.change.Edit.TheVariants.{AddSection, AddPoint}
use Rattle.clr_load.specs.Tables.{Tables, clearance_row, flag_value, hand_values, hold_row}
use Rattle.clr_load.specs.Tables.{jumper_row, position_value, section_row, step_row, version_row}

-- a row put into a table whose key is its first columns, this many
abbrev pub with_table_row : ℕ → Row → List Row → List Row
with_table_row keys row rows = with_row row_cmp (take keys) row rows

-- a table without the row of a key
abbrev pub without_table_row : ℕ → Row → List Row → List Row
without_table_row keys key rows = without_row row_cmp (take keys) key rows

-- the row of a point changed, in the table of points
abbrev pub changed_point : List ℕ → (Row → Row) → List Row → List Row
changed_point point change rows =
    map (λ row. if is_eq (row_cmp (take 1 row) (Text point ∷ [])) then change row else row) rows

-- the columns position, hand_requester and hand_number of a point
abbrev pub placed_row : Position → Row → Row
placed_row position row = slice_set row 5 (position_value position)

abbrev pub handed_row : Option Id → Row → Row
handed_row hand row = slice_set (slice_set row 6 (column (hand_values hand) 0)) 7
    (column (hand_values hand) 1)

-- the row of an added point: open and in nobody's hand, wherever its row says that it is
abbrev pub added_point : PointRow → Row
added_point p = jumper_row p (first_state (unplaced p))

abbrev pub table_edited : Edit → Tables → Tables
table_edited (SetPosition point position) t =
    record t { points = changed_point point (placed_row position) t.points }
table_edited (SetHand point hand) t =
    record t { points = changed_point point (handed_row hand) t.points }
table_edited (PutHold h) t = record t { holds = with_table_row 4 (hold_row h) t.holds }
table_edited (TakeHold h) t = record t { holds = without_table_row 4 (hold_row h) t.holds }
table_edited (PutRecord r) t =
    record t { clearances = with_table_row 2 (clearance_row r) t.clearances }
table_edited (PutStep row) t = record t { steps = with_table_row 4 (step_row row) t.steps }
table_edited (AddSection row) t =
    record t { sections = with_table_row 1 (section_row row) t.sections }
table_edited (AddPoint p) t = record t { points = with_table_row 1 (added_point p) t.points }

-- the edits, one after the other
unfoldable pub tables_edited : List Edit → Tables → Tables
tables_edited [] t = t
tables_edited (edit ∷ edits) t = tables_edited edits (table_edited edit t)

-- TABLES OF VERSION 1 MOVED TO VERSION 2: the version is set again, and each point gets a column
-- more, by which it is no jumper
abbrev pub tables_moved : Tables → Tables
tables_moved t = record t {
  meta = with_table_row 1 (version_row 2) t.meta;
  points = map (λ row. row ++ flag_value false ∷ []) t.points;
}
