-- How an answer follows the one that is given.
use Rattle.std.specs.Prelude.{◌≡◌, ◌≢◌, Result, Ok, Err}
use Rattle.clr_csv.specs.declared.fault.CsvFault.{CsvFault}
use Rattle.clr_csv.specs.declared.fault.CsvFault.TheVariants.{ReadFailed, NoMemory}

-- the value that is given, as `view` shows it, or the fault that is given; only want of memory may
-- come in its place
abbrev pub Gives : {A T : Type 0} → (T → A) → Result A CsvFault → Result T CsvFault → Type 0
Gives view told (Ok value) = told ≡ Ok (view value)
Gives view told (Err fault) = fault ≢ NoMemory → told ≡ Err fault

-- the same of a call that reads: a failure of the reader may come in its place too
abbrev pub GivesUnlessFailed : {A T : Type 0} → (T → A) → Result A CsvFault → Result T CsvFault
    → Type 0
GivesUnlessFailed view told (Ok value) = told ≡ Ok (view value)
GivesUnlessFailed view told (Err fault) = fault ≢ ReadFailed → fault ≢ NoMemory → told ≡ Err fault
