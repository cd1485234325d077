-- The bytes of a file of rows, by what a reader gave.
use Rattle.std.proofs.Common.{◌≡◌, ◌⊎◌, ◌<◌, ◌≤◌, ◌∙◌, ℕ, List, Option, None, Some, Result, Ok, Err, Vec, length, inl, inr, refl, subst, sym}
use Rattle.std.proofs.lemmas.Bool.{le-ltb, lt-ltb}
use Rattle.std.specs.Prelude.{IfSome}
use Rattle.std.specs.declared.alloc.Global.{Global}
use Rattle.clr_csv.specs.declared.fault.CsvFault.{CsvFault}
use Rattle.clr_csv.specs.declared.fault.CsvFault.TheVariants as csv
use Rattle.clr_edge.specs.Files.{GivesBytes, GivesFile, told_of}
use Rattle.clr_edge.specs.declared.fault.Fault.{Fault}
use Rattle.clr_edge.specs.declared.fault.ImportFile.{ImportFile}

-- what is known of a file before it is opened is known of it then
pub opened : (before now : Option (List ℕ)) (P : List ℕ → Type 0) → now ≡ before → IfSome now P → IfSome before P
opened before now P is holds = let Q : Option (List ℕ) → Type 0 = λ o. IfSome o P in subst Q is holds

pub whole : (before : Option (List ℕ)) (bytes : Vec ℕ Global) → IfSome before (λ known. (bytes.items ≡ known) × (length known ≤ 4194304))
    → IfSome before (λ known. GivesBytes known (Ok bytes))
whole None bytes is = tt
whole (Some known) bytes is = (is.0, le-ltb 4194304 (length known) is.1)

pub beyond : (before : Option (List ℕ)) → IfSome before (λ known. 4194304 < length known)
    → IfSome before (λ known. GivesBytes known (Err csv.TooLong))
beyond None is = tt
beyond (Some known) is = inr (inr (refl, lt-ltb 4194304 (length known) is))

pub unread : (before : Option (List ℕ)) (cause : CsvFault) → (cause ≡ csv.NoMemory) ⊎ (cause ≡ csv.ReadFailed)
    → IfSome before (λ known. GivesBytes known (Err cause))
unread None cause is = tt
unread (Some known) cause (inl memory) = inl memory
unread (Some known) cause (inr failed) = inr (inl failed)

-- a fault names the file
pub named : (file : ImportFile) (before : Option (List ℕ)) (read : Result (Vec ℕ Global) CsvFault) (told : Result (Vec ℕ Global) Fault)
    → told ≡ told_of file read → IfSome before (λ known. GivesBytes known read) → IfSome before (λ known. GivesFile file known told)
named file None read told is gives = tt
named file (Some known) read told is gives = let Q : Result (Vec ℕ Global) Fault → Type 0 = λ r. GivesFile file known r in subst Q (sym is) (of read gives)
  where
    of : (read : Result (Vec ℕ Global) CsvFault) → GivesBytes known read → GivesFile file known (told_of file read)
    of (Ok bytes) gives = gives
    of (Err cause) (inl memory) = rw memory (inl (inl refl))
    of (Err cause) (inr (inl failed)) = rw failed (inl (inr refl))
    of (Err cause) (inr (inr long)) = let is = long.0 in rw is (inr (refl, long.1))
