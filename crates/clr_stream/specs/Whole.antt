-- Bytes that are read whole.
use Rattle.std.specs.Prelude.{◌≡◌, ◌<◌, ◌≤◌, ℕ, List, length, Option, Result, Ok, Err}
use Rattle.std.specs.Io.KnownBytes.{Consumes}
use Rattle.clr_stream.specs.declared.fault.ReadFault.{ReadFault}
use Rattle.clr_stream.specs.declared.fault.ReadFault.TheVariants.{NoMemory, ReadFailed, TooLong}

-- What a call gives that reads known bytes to their end: the bytes, as `view` shows them, where they
-- are at most the limit; TooLong only where they are more. A failure of the reader, or want of
-- memory, may come in their place.
abbrev pub GivesWhole : {T : Type 0} → (T → List ℕ) → ℕ → List ℕ → Result T ReadFault → Type 0
GivesWhole view limit bytes (Ok read) = (view read ≡ bytes) × (length bytes ≤ limit)
GivesWhole view limit bytes (Err TooLong) = limit < length bytes
GivesWhole view limit bytes (Err ReadFailed) = Unit {0}
GivesWhole view limit bytes (Err NoMemory) = Unit {0}

-- at most n bytes of the known ones were taken
abbrev pub TakesAtMost : ℕ → Option (List ℕ) → Option (List ℕ) → Type 0
TakesAtMost n old new = (bytes : List ℕ) × Consumes old new bytes × (length bytes ≤ n)
