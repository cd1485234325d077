-- The known bytes of a reader, taken piece by piece.
use Rattle.std.proofs.Common.{◌++◌, ℕ, List, Option, Some, None, append_assoc}
use Rattle.std.specs.Io.KnownBytes.{Consumes}

-- what two calls took, one after the other
pub Consumes-append : (first second third : Option (List ℕ)) (xs ys : List ℕ)
    → Consumes first second xs → Consumes second third ys → Consumes first third (xs ++ ys)
Consumes-append None second third xs ys taken more = tt
Consumes-append (Some a) None third xs ys taken more = absurd taken
Consumes-append (Some a) (Some b) None xs ys taken more = more
Consumes-append (Some a) (Some b) (Some c) xs ys taken more = rw (taken, more, append_assoc)
