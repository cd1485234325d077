-- The records that a reader of comma-separated fields has left.
use Rattle.std.specs.Prelude.{◌≡◌, ◌≢◌, ℕ, ◌+◌, Bool, true, false, List, [], ◌∷◌, length, Option}
use Rattle.std.specs.Prelude.{Some, None, Result, Ok, Err}
use Rattle.std.specs.Borrow.{Bor}
use Rattle.csv.specs.Reading.{Ready, default_config, has_failed, is_flexible, reader_config}
use Rattle.csv.specs.Reading.{reader_state, reader_trim, records_from, source_of}
use Rattle.csv.specs.declared.parser.State.{State}
use Rattle.csv.specs.declared.reader.Reader.{Reader}
use Rattle.csv.specs.declared.reader.Trim.TheVariants as trim
use Rattle.clr_csv.specs.declared.fault.CsvFault.{CsvFault}
use Rattle.clr_csv.specs.declared.fault.CsvFault.TheVariants.{NoMemory}
use Rattle.clr_csv.specs.Rows.{Fields, is_text}

-- the bytes that a reader over a slice has left
abbrev pub bytes_left : Reader (Bor (List ℕ)) → Option (List ℕ)
bytes_left reader = source_of (λ slice. Some slice.now) reader

-- the records of these bytes, from a state of the reader. There is at most one a byte, and one more
-- where the state is inside a record
unfoldable pub records_at : State → Option (List ℕ) → List Fields
records_at state None = []
records_at state (Some bytes) = records_from default_config (length bytes + 2) state bytes

-- the records that a reader over a slice has left
abbrev pub records_left : Reader (Bor (List ℕ)) → List Fields
records_left reader = records_at (reader_state reader) (bytes_left reader)

-- the reader is set up for the format: csv's defaults, records of any length, no header of its own
pub record IsSetUp (reader : Reader (Bor (List ℕ))) : Type 0 where
  pub config : reader_config reader ≡ default_config
  pub trim : reader_trim reader ≡ trim.None
  pub flexible : is_flexible reader ≡ true
  pub ready : Ready reader

-- the same, of a reader that may have failed and then gives no more records
abbrev pub IsSetUpOrFailed : Reader (Bor (List ℕ)) → Type 0
IsSetUpOrFailed reader = has_failed reader ≡ false → IsSetUp reader

-- the first of these records has a field that is not text
abbrev pub BeginsWithoutText : List Fields → Type 0
BeginsWithoutText [] = ⊥
BeginsWithoutText (fields ∷ table) = is_text fields ≡ false

-- a read took the next record, with these fields; found none; or found one that is not text
abbrev pub TakesRecord : List Fields → List Fields → CsvFault → Fields → Result Bool CsvFault
    → Type 0
TakesRecord old new not_text fields (Ok true) = (old ≡ fields ∷ new) × (is_text fields ≡ true)
TakesRecord old new not_text fields (Ok false) = old ≡ []
TakesRecord old new not_text fields (Err fault) = fault ≢ NoMemory → (fault ≡ not_text)
    × BeginsWithoutText old
