-- A file that was read keeps no later one waiting.
use Rattle.std.proofs.Common.{◌≡◌, subst, sym, ℕ, List, Result, Ok, Err}
use Rattle.std.specs.Prelude.{IfErr, IfSome, OnErr, Option, Some, None}
use Rattle.clr_csv.specs.declared.fault.CsvFault.{CsvFault}
use Rattle.clr_edge.specs.Files.{WaitsFor, told_of}
use Rattle.clr_edge.specs.declared.fault.Fault.{Fault}
use Rattle.clr_edge.specs.declared.fault.ImportFile.{ImportFile}

read-waits : {A : Type 0} (P : Type 0) (file : ImportFile) (read : Result (List A) CsvFault) (rows : List A)
    → told_of file read ≡ Ok rows → OnErr read P
read-waits P file (Ok read) rows is = tt
read-waits P file (Err cause) rows is =
    absurd (subst (λ (told : Result (List _) Fault). IfErr told (λ fault. ⊥)) (sym is) tt)

-- where the rows of a file came, no later file waits for it
pub WaitsFor-read : {A T X : Type 0} (file later : ImportFile) (earlier : Option (List ℕ))
    (read : List ℕ → Result (List A) CsvFault) (rows : List A) (result : Result T Fault) (before after : X)
    → IfSome earlier (λ bytes. told_of file (read bytes) ≡ Ok rows)
    → WaitsFor earlier read later result before after
WaitsFor-read file later None read rows result before after is = tt
WaitsFor-read file later (Some bytes) read rows result before after is =
    read-waits _ file (read bytes) rows is
