-- HOW THE DISK'S FAILURES ARE COUNTED where a journal is opened.
use Rattle.std.specs.Prelude.{◌≡◌, ℕ, Result, Ok, Err}
use Rattle.sqlite_disk.specs.Disk.{MoreFaults}
use Rattle.clr_journal.specs.declared.fault.OpenFault.{OpenFault}
use Rattle.clr_journal.specs.declared.fault.OpenFault.TheVariants as opening
use Rattle.clr_chain.specs.declared.fault.ChainFault.{ChainFault}
use Rattle.clr_chain.specs.declared.fault.ChainFault.TheVariants as fault

-- a fault of reading, as one of opening
abbrev pub of_opening : OpenFault → ChainFault
of_opening opening.OpenFailed = fault.OpenFailed
of_opening opening.NoMemory = fault.NoMemory

-- where the disk failed, it counts a failure more; else none
abbrev pub CountsRefused : {T : Type 0} → Result T ChainFault → ℕ → ℕ → Type 0
CountsRefused (Ok value) old new = new ≡ old
CountsRefused (Err fault.OpenFailed) old new = MoreFaults old new
CountsRefused (Err fault.NoMemory) old new = new ≡ old
CountsRefused (Err (fault.OtherRules number)) old new = new ≡ old
CountsRefused (Err fault.OtherRegister) old new = new ≡ old
CountsRefused (Err fault.TooShort) old new = new ≡ old
CountsRefused (Err (fault.Differs number)) old new = new ≡ old
CountsRefused (Err (fault.BadLine number)) old new = new ≡ old
