-- What a clause sees of a reader or a writer with a count beside it.
use Rattle.std.specs.Prelude.{ℕ, List, Option}
use Rattle.clr_stream.specs.Streams.{Stream}
use Rattle.clr_stream.specs.declared.counted.Counted.{Counted}

-- the reader or writer itself
abbrev pub counted_inner : {T : Type 0} → Counted T → T
counted_inner c = c.inner

-- how many of its calls have failed
abbrev pub counted_failures : {T : Type 0} → Counted T → ℕ
counted_failures c = c.failures

-- how many of its writes were given bytes and took none
abbrev pub counted_stalls : {T : Type 0} → Counted T → ℕ
counted_stalls c = c.stalls

-- a writer as it is, by the bytes that the writer itself holds
abbrev pub counted_stream : {T : Type 0} → (T → Option (List ℕ)) → Counted T → Stream
counted_stream contents c = record {
  contents = contents c.inner;
  failures = c.failures;
  stalls = c.stalls;
  flushed = c.flushed;
}
