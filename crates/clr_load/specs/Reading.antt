-- What a text in a column reads as.
use Rattle.std.specs.Prelude.{◌≡◌, ℕ, Bool, true, false, if◌then◌else◌, List, Result, Ok, Err}
use Rattle.sqlite.specs.Order.{Row, column}
use Rattle.sqlite.specs.declared.types.Value.{Value}
use Rattle.sqlite.specs.declared.types.Value.TheVariants.{Null}
use Rattle.clr_net.specs.Results.{◌>>=◌}
use Rattle.clr_load.specs.RowsRead.{PointRead as ReadPoint, read_placed, read_point}
pub use Rattle.clr_load.specs.RowsRead.{utf8_at}
use Rattle.clr_load.specs.declared.table_name.TableName.{TableName}
use Rattle.clr_load.specs.declared.table_name.TableName.TheVariants.{Point}
use Rattle.clr_load.specs.declared.table_row.OldPoint.{OldPoint}
use Rattle.clr_load.specs.declared.table_row.PointRead.{PointRead}

-- what is read, as `value` sees it, or the table of the row that does not read
abbrev pub Reads : {A X : Type 0} → (X → A) → Result A TableName → Result X TableName → Type 0
Reads value read (Ok x) = read ≡ Ok (value x)
Reads value read (Err t) = read ≡ Err t

-- whether a column is NULL. One that the row does not have counts as NULL
abbrev pub is_null : Value → Bool
is_null Null = true
is_null _ = false

abbrev pub is_null_at : ℕ → Row → Bool
is_null_at place row = is_null (column row place)

-- a switching point and its state, in two fields
abbrev pub in_fields : ReadPoint → PointRead
in_fields p = record { point = p.point; state = p.state }

abbrev pub placed_values : TableName → Row → Result PointRead TableName
placed_values t row = do
  p ← read_placed t row
  Ok (in_fields p)

abbrev pub point_values : Row → Result PointRead TableName
point_values row = do
  p ← read_point row
  Ok (in_fields p)

-- a switching point of version 1
abbrev pub old_point : ReadPoint → OldPoint
old_point p = record { read = in_fields p }

abbrev pub old_values : Row → Result OldPoint TableName
old_values row = do
  p ← read_placed Point row
  Ok (old_point p)
