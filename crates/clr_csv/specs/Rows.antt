-- The rows of a file, or its first fault, as a function of the file's bytes.
use Rattle.std.specs.Prelude.{ℕ, ◌+◌, ◌==◌, nat_le, nat_lt, Bool, if◌then◌else◌, List, [], ◌∷◌}
use Rattle.std.specs.Prelude.{length, Result, Ok, Err}
use Rattle.clr_net.specs.Prelude.{list_all}
use Rattle.std.specs.Cmp.Lexicographic.{pointwise}
use Rattle.std.specs.Str.{is_utf8}
use Rattle.csv.specs.Reading.{default_config, records, strip_bom}
use Rattle.clr_net.specs.Results.{◌>>=◌}
use Rattle.clr_csv.specs.declared.columns.ColumnFault.{ColumnFault}
use Rattle.clr_csv.specs.declared.fault.CsvFault.{CsvFault}
use Rattle.clr_csv.specs.declared.fault.CsvFault.TheVariants.{Header, NotText, FieldCount, TooLong}
use Rattle.clr_csv.specs.Columns.{fault_in}

-- the fields of a record, each a text of bytes
abbrev pub Fields : Type 0
Fields = List (List ℕ)

-- two records have the same fields
abbrev pub same_fields : Fields → Fields → Bool
same_fields = pointwise (pointwise ◌==◌)

-- the records under the header, where the first record is the header
abbrev pub under_header : Fields → List Fields → Result (List Fields) CsvFault
under_header header [] = Err Header
under_header header (first ∷ table) = if same_fields header first then Ok table else Err Header

-- each byte of each field is of ASCII, as the names of the columns are
abbrev pub is_ascii : Fields → Bool
is_ascii fields = list_all (list_all (λ byte. nat_lt byte 128)) fields

-- each field is text
abbrev pub is_text : Fields → Bool
is_text fields = list_all is_utf8 fields

-- the fields of a row, if all of them are text
abbrev pub text_in : ℕ → Fields → Result Fields CsvFault
text_in row fields = if is_text fields then Ok fields else Err (NotText row)

-- the fields of a row, if there are as many as the header has
abbrev pub as_many_as : Fields → ℕ → Fields → Result Fields CsvFault
as_many_as header row fields = if length fields == length header then Ok fields
    else Err (FieldCount row)

-- what the columns of a row read as, a fault with the row
abbrev pub in_row : {A : Type 0} → ℕ → Result A ColumnFault → Result A CsvFault
in_row row (Ok value) = Ok value
in_row row (Err fault) = Err (fault_in row fault)

-- what a row of a file reads as. `columns` reads the fields, from the left
unfoldable pub row_of : {A : Type 0} → Fields → (Fields → Result A ColumnFault) → ℕ → Fields
    → Result A CsvFault
row_of header columns row fields = do
  texts ← text_in row fields
  counted ← as_many_as header row texts
  in_row row (columns counted)

-- what the records under a header read as, the first of them at this row
unfoldable pub rows_from : {A : Type 0} → (ℕ → Fields → Result A CsvFault) → ℕ → List Fields
    → Result (List A) CsvFault
rows_from read row [] = Ok []
rows_from read row (fields ∷ table) = do
  first ← read row fields
  rows ← rows_from read (row + 1) table
  Ok (first ∷ rows)

-- what the records of a file read as, the header first
unfoldable pub rows_in : {A : Type 0} → Fields → (Fields → Result A ColumnFault) → List Fields
    → Result (List A) CsvFault
rows_in header columns table = do
  rows ← under_header header table
  rows_from (row_of header columns) 1 rows

-- the bytes of a file, unless they are more than 4 MiB
abbrev pub within_limit : List ℕ → Result (List ℕ) CsvFault
within_limit bytes = if nat_le (length bytes) 4194304 then Ok bytes else Err TooLong

-- what a file reads as: a byte order mark at its start is skipped
unfoldable pub rows_of : {A : Type 0} → Fields → (Fields → Result A ColumnFault) → List ℕ
    → Result (List A) CsvFault
rows_of header columns file = do
  bytes ← within_limit file
  rows_in header columns (records default_config (strip_bom bytes))
