-- The rows of files at paths, and the cause of a file that is reported as unread.
use Rattle.std.proofs.Common.{◌≡◌, ap, subst, ℕ, List, Option, Result, Ok, Err}
use Rattle.std.specs.Prelude.{IsErrOf}
use Rattle.clr_edge.specs.declared.fault.Fault.{Fault}
use Rattle.clr_commands.specs.Import.{AreRead, FileRows, as_lists}
use Rattle.clr_commands.specs.declared.import.Rows.{Rows}

-- the bytes that files hold are those at their paths
pub AreRead-at : (s s' p p' e e' : Option (List ℕ)) (read : Result FileRows Fault) → s ≡ s' → p ≡ p' → e ≡ e' → AreRead s p e read
    → AreRead s' p' e' read
AreRead-at s s' p p' e e' read at_s at_p at_e are =
    subst (λ (o : Option (List ℕ)). AreRead s' p' o read) at_e
    (subst (λ (o : Option (List ℕ)). AreRead s' o e read) at_p
    (subst (λ (o : Option (List ℕ)). AreRead o p e read) at_s are))

-- a fault of the rows as lists is that of the rows
pub IsErrOf-rows : (result : Result Rows Fault) (fault : Fault) → IsErrOf (as_lists result) fault → IsErrOf result fault
IsErrOf-rows (Ok rows) fault is = absurd (cc is)
IsErrOf-rows (Err cause) fault is = let same : cause ≡ fault = cc is in ap Err same
