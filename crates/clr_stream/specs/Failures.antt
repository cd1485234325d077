-- How a count of failures goes, of a reader or of a writer.
use Rattle.std.specs.Prelude.{ℕ, ◌+◌, ◌-◌, ◌^◌, ◌<◌, ◌≤◌, ◌⊎◌, ◌==◌, ◌&&◌, Bool, false, not, min}
use Rattle.std.specs.Prelude.{List, length, Result, Ok, Err, if◌then◌else◌}

-- one more, up to the greatest number that a count holds
abbrev pub one_more : ℕ → ℕ
one_more count = min (count + 1) (2 ^ 64 - 1)

-- the count of failures after a call
abbrev pub count_after : {T E : Type 0} → Result T E → ℕ → ℕ
count_after (Ok value) count = count
count_after (Err failure) count = one_more count

-- the count has risen; one that is at its greatest number is taken as risen
abbrev pub Rose : ℕ → ℕ → Type 0
Rose old new = (old < new) ⊎ (2 ^ 64 - 1 ≤ old)

-- a write was given bytes, and took none of them
abbrev pub took_none : {E : Type 0} → Result ℕ E → List ℕ → Bool
took_none (Ok count) bytes = not (length bytes == 0) && (count == 0)
took_none (Err failure) bytes = false

-- the count of writes that took none of their bytes, after a write
abbrev pub stalls_after : {E : Type 0} → Result ℕ E → List ℕ → ℕ → ℕ
stalls_after result bytes count = if took_none result bytes then one_more count else count
