-- A stream that ends at a time, which is that of a clock.
use Rattle.std.specs.Prelude.{◌≡◌, ◌⊎◌, ◌+◌, ℕ, IfSome, IsErr, IsSomeAnd, Result}
use Rattle.std.specs.Time.{instant_nanos}
use Rattle.std.specs.declared.time.Instant.{Instant}
use Rattle.clr_disk.specs.declared.timed.Call.{Call}
use Rattle.clr_disk.specs.declared.timed.Limit.{Limit}
use Rattle.clr_disk.specs.declared.timed.Timed.{Timed}

-- A LIMIT THAT IS THIS NUMBER OF NANOSECONDS after a moment of a clock, and goes by that clock
pub record EndsAfter {K : Type 0} (clock : K) (now : Instant) (nanos : ℕ) (limit : Limit K)
    : Type 0 where
  pub by : limit.clock ≡ clock
  pub at : instant_nanos limit.end ≡ instant_nanos now + nanos

-- A CALL OF A STREAM IS PASSED ON, and then its limit stays, and the stream was let wait up to it
-- first; or, where it has one and could not be let wait, the call fails and it is as it was
abbrev pub IsPassedOn : {T K V E : Type 0} → (T → Call → Limit K → Type 0)
    → (T → Call → Limit K → Type 0) → Call → Timed T K → Timed T K → Result V E → Type 0 → Type 0
IsPassedOn waits is_over call old new result Passed =
    (IfSome old.limit (waits old.stream call) × Passed × (new.limit ≡ old.limit))
    ⊎ (IsErr result × IsSomeAnd old.limit (is_over old.stream call) × (new ≡ old))
