-- The file of the switching points.
use Rattle.std.specs.Prelude.{ℕ, false, List, [], ◌∷◌, codes, Result, Ok}
use Rattle.clr_net.specs.declared.point.PointRow.{PointRow}
use Rattle.clr_csv.specs.declared.columns.ColumnFault.{ColumnFault}
use Rattle.clr_csv.specs.declared.fault.CsvFault.{CsvFault}
use Rattle.clr_csv.specs.Columns.{name_in, position_in, yes_no_in}
use Rattle.clr_net.specs.Results.{◌>>=◌}
use Rattle.clr_csv.specs.Rows.{Fields, rows_of}

abbrev pub point_header : Fields
point_header = codes "point" ∷ codes "from" ∷ codes "to" ∷ codes "lockable" ∷ codes "remote"
    ∷ codes "position" ∷ []

-- a point's row
abbrev pub point_in : Fields → Result PointRow ColumnFault
point_in fields = do
  name ← name_in 1 fields
  from_end ← name_in 2 fields
  to_end ← name_in 3 fields
  lockable ← yes_no_in 4 fields
  remote ← yes_no_in 5 fields
  position ← position_in 6 fields
  Ok (record {
    name = name;
    from_end = from_end;
    to_end = to_end;
    lockable = lockable;
    remote = remote;
    position = position;
    jumper = false;
  })

-- the points of a file, or its first fault
abbrev pub points_of : List ℕ → Result (List PointRow) CsvFault
points_of = rows_of point_header point_in
