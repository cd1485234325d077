-- The rows that files give, one file after the other.
use Rattle.std.specs.Prelude.{◌≡◌, ◌≢◌, ◌⊎◌, ℕ, List, None, Option, Some, Result, Ok, Err, IfSome}
use Rattle.std.specs.Prelude.{IsErr, IsErrOf, OnErr, Vec, false, length, nat_lt, true}
use Rattle.std.specs.declared.alloc.Global.{Global}
use Rattle.std.specs.Io.KnownBytes.{ReadConsumes}
use Rattle.std.specs.declared.io.ErrorKind.{ErrorKind}
use Rattle.std.specs.declared.io.ErrorKind.TheVariants.{OutOfMemory}
use Rattle.clr_stream.specs.Failures.{Rose}
use Rattle.clr_csv.specs.declared.fault.CsvFault.{CsvFault}
use Rattle.clr_csv.specs.declared.fault.CsvFault.TheVariants.{NoMemory, ReadFailed, TooLong}
use Rattle.clr_edge.specs.declared.fault.ImportFile.{ImportFile}
use Rattle.clr_edge.specs.declared.fault.Fault.{Fault}
use Rattle.clr_edge.specs.declared.fault.Fault.TheVariants.{Memory, File}
use Rattle.clr_edge.specs.Fault.{of_file}

-- what the rows of a file come to, its faults with its name
abbrev pub told_of : {A : Type 0} → ImportFile → Result A CsvFault → Result A Fault
told_of file (Ok rows) = Ok rows
told_of file (Err cause) = Err (of_file file cause)

-- the file's device failed, or memory ran out
abbrev pub IsUnread : ImportFile → Fault → Type 0
IsUnread file fault = (fault ≡ Memory) ⊎ (fault ≡ File file ReadFailed)

-- what is reported of a file that was not opened, for this reason
abbrev pub open_fault : ErrorKind → CsvFault
open_fault OutOfMemory = NoMemory
open_fault _ = ReadFailed

-- a read of a file is one of the file that was opened; where none was, it fails
abbrev pub ReadsOpened : {F E : Type 0} → (F → Option (List ℕ)) → Option F → Option F → Result ℕ E
    → List ℕ → Type 0
ReadsOpened remaining (Some old) (Some new) result bytes =
    ReadConsumes (remaining old) (remaining new) result bytes
ReadsOpened remaining None None result bytes = IsErr result
ReadsOpened remaining old new result bytes = ⊥

-- the rows that are given, as `view` shows them, or the fault; only a file that goes unread may
-- come in its place
abbrev pub GivesRows : {A T : Type 0} → ImportFile → (T → List A) → Result (List A) Fault
    → Result T Fault → Type 0
GivesRows file view told (Ok rows) = told ≡ Ok (view rows)
GivesRows file view told (Err fault) = (IsUnread file fault → ⊥) → told ≡ Err fault

-- the bytes of a file, if they are at most 4 MiB; only a file that goes unread, or want of memory,
-- may come in their place
abbrev pub GivesBytes : List ℕ → Result (Vec ℕ Global) CsvFault → Type 0
GivesBytes known (Ok bytes) = (bytes.items ≡ known) × (nat_lt 4194304 (length known) ≡ false)
GivesBytes known (Err cause) = (cause ≡ NoMemory) ⊎ (cause ≡ ReadFailed)
    ⊎ ((cause ≡ TooLong) × (nat_lt 4194304 (length known) ≡ true))

-- the same, with the file's name in a fault
abbrev pub GivesFile : ImportFile → List ℕ → Result (Vec ℕ Global) Fault → Type 0
GivesFile file known (Ok bytes) =
    (bytes.items ≡ known) × (nat_lt 4194304 (length known) ≡ false)
GivesFile file known (Err fault) = IsUnread file fault
    ⊎ ((fault ≡ File file TooLong) × (nat_lt 4194304 (length known) ≡ true))

-- a file is reported as unread only where its count of failures rose in the call
abbrev pub HasCause : {T : Type 0} → ImportFile → Result T Fault → ℕ → ℕ → Type 0
HasCause file result before after = IsErrOf result (File file ReadFailed) → Rose before after

-- A file waits for an earlier one: where that has a fault of its own, this one stays as it was, and
-- is not reported as unread.
abbrev pub WaitsFor : {A T X : Type 0} → Option (List ℕ) → (List ℕ → Result A CsvFault) → ImportFile
    → Result T Fault → X → X → Type 0
WaitsFor earlier read file result before after =
    IfSome earlier (λ bytes.
    OnErr (read bytes) ((after ≡ before) × (result ≢ Err (File file ReadFailed))))
