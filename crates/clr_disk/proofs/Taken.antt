-- The known bytes of a reader, of which a bounded number is taken.
use Rattle.std.proofs.Common.{◌≡◌, ◌≤◌, ◌+◌, ◌-◌, ◌++◌, ℕ, [], List, length, take, Option, Some, None, arith, length-append, length-take, refl, sym}
use Rattle.std.specs.Io.KnownBytes.{Consumes, Keeps}
use Rattle.clr_stream.proofs.Taken.{Consumes-append}
use Rattle.clr_stream.specs.Whole.{TakesAtMost}

-- none are taken of a reader that is as it was
pub none_taken : (n : ℕ) (old : Option (List ℕ)) → TakesAtMost n old old
none_taken n None = ([], tt, omega arith)
none_taken n (Some xs) = ([], refl, omega arith)

-- one read takes as many as it gives
pub read_taken : (n : ℕ) (old new : Option (List ℕ)) (buf : List ℕ) → Consumes old new (take n buf) → TakesAtMost n old new
read_taken n old new buf taken = (take n buf, taken, omega (arith, length-take {A = ℕ}))

-- and none where it failed
pub failed_taken : (n : ℕ) (old new : Option (List ℕ)) → Keeps old new → TakesAtMost n old new
failed_taken n None new keeps = ([], tt, omega arith)
failed_taken n (Some a) None keeps = absurd keeps
failed_taken n (Some a) (Some b) keeps = ([], sym keeps, omega arith)

-- a read after others takes some more
pub more_taken : (most room count : ℕ) (first old new : Option (List ℕ)) → room ≤ most → count ≤ room
    → TakesAtMost (most - room) first old → TakesAtMost count old new → TakesAtMost (most - (room - count)) first new
more_taken most room count first old new within fits (bytes, taken, few) (more, next, some) =
    (bytes ++ more, Consumes-append first old new bytes more taken next, omega (arith, within, fits, few, some, length-append {A = ℕ}))

-- or none
pub last_taken : (n count : ℕ) (first old new : Option (List ℕ)) → count ≡ 0
    → TakesAtMost n first old → TakesAtMost count old new → TakesAtMost n first new
last_taken n count first old new zero (bytes, taken, few) (more, next, some) =
    (bytes ++ more, Consumes-append first old new bytes more taken next, omega (arith, zero, few, some, length-append {A = ℕ}))
