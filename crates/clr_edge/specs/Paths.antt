-- What is known of the files at paths, and why one is reported as unread.
use Rattle.std.specs.Prelude.{◌≡◌, ℕ, List, Option, Result, IsErrOf}
use Rattle.clr_stream.specs.Failures.{Rose}
use Rattle.clr_csv.specs.declared.fault.CsvFault.TheVariants.{ReadFailed}
use Rattle.clr_edge.specs.declared.fault.ImportFile.{ImportFile}
use Rattle.clr_edge.specs.declared.fault.Fault.{Fault}
use Rattle.clr_edge.specs.declared.fault.Fault.TheVariants.{File}

-- what the file at a path holds, where that is known, and that it could not be opened or read
pub record AtPaths : Type 1 where
  pub bytes : List ℕ → Option (List ℕ)
  pub fails : List ℕ → Type 0

-- a file that holds these bytes could not be opened, or a read of it failed
abbrev pub FailsToRead : {F : Type 0} → (F → Option (List ℕ)) → (F → ℕ) → Option (List ℕ) → Type 0
FailsToRead {F} remaining failures bytes = (before : F) × (after : F)
    × (remaining before ≡ bytes) × Rose (failures before) (failures after)

-- the files of paths, of which one counts its failures, an open that fails among them
abbrev pub at_paths : {F : Type 0} → (F → Option (List ℕ)) → (F → ℕ)
    → (List ℕ → Option (List ℕ)) → AtPaths
at_paths remaining failures bytes_at = record {
  bytes = bytes_at;
  fails = λ path. FailsToRead remaining failures (bytes_at path);
}

-- THE CAUSE OF A FILE THAT IS REPORTED AS UNREAD: the one at this path could not be opened or read
abbrev pub HasCauseAt : {T : Type 0} → AtPaths → List ℕ → ImportFile → Result T Fault → Type 0
HasCauseAt at path file result = IsErrOf result (File file ReadFailed) → at.fails path
