-- What goes out to a writer.
use Rattle.std.specs.Prelude.{ℕ, Bool, true, ◌≡◌, ◌⊎◌, ◌<◌, ◌++◌, List, length, take}
use Rattle.std.specs.Prelude.{Option, Result, OnOk}
use Rattle.std.specs.Io.KnownBytes.{Appends, Keeps, WriteAppends}
use Rattle.clr_stream.specs.Failures.{Rose, count_after, stalls_after}

-- What is known of a writer: the bytes that it holds, where they are known; how many of its calls
-- have failed; how many of its writes took no byte; and whether nothing was written since it was
-- flushed.
pub record Stream : Type 0 where
  pub contents : Option (List ℕ)
  pub failures : ℕ
  pub stalls : ℕ
  pub flushed : Bool

-- One write: the bytes that it took went out; a failure is counted, and so is a write that was
-- given bytes and took none.
pub record IsWrite {E : Type 0} (result : Result ℕ E) (bytes : List ℕ) (old new : Stream) : Type 0 where
  pub contents : WriteAppends old.contents new.contents result bytes
  pub failures : new.failures ≡ count_after result old.failures
  pub stalls : new.stalls ≡ stalls_after result bytes old.stalls

-- one flush: no byte more went out; a failure is counted, and without one the writer is flushed
pub record IsFlush {T E : Type 0} (result : Result T E) (old new : Stream) : Type 0 where
  pub contents : Keeps old.contents new.contents
  pub failures : new.failures ≡ count_after result old.failures
  pub stalls : new.stalls ≡ old.stalls
  pub flushed : OnOk result (new.flushed ≡ true)

-- a call of the writer failed, or none failed and a write took no byte
abbrev pub HasFailed : Stream → Stream → Type 0
HasFailed old new = Rose old.failures new.failures
    ⊎ ((new.failures ≡ old.failures) × Rose old.stalls new.stalls)

-- bytes went out whole, and no call failed or took no byte
pub record WroteAll (bytes : List ℕ) (old new : Stream) : Type 0 where
  pub contents : Appends old.contents new.contents bytes
  pub failures : new.failures ≡ old.failures
  pub stalls : new.stalls ≡ old.stalls

-- this many of the bytes went out, from the first on, and not all; then the writer failed
pub record WrotePart (count : ℕ) (bytes : List ℕ) (old new : Stream) : Type 0 where
  pub contents : Appends old.contents new.contents (take count bytes)
  pub part : count < length bytes
  pub cause : HasFailed old new

-- Known bytes grow by a front of a text.
abbrev pub AppendsFront : Option (List ℕ) → Option (List ℕ) → List ℕ → Type 0
AppendsFront old new text = (front : List ℕ) × (rest : List ℕ) × (text ≡ front ++ rest)
    × Appends old new front

-- a text went out whole, and was flushed
abbrev pub WentOut : Stream → Stream → List ℕ → Type 0
WentOut old new text = Appends old.contents new.contents text × (new.flushed ≡ true)

-- a front of a text went out, and the writer failed
abbrev pub IsCut : Stream → Stream → List ℕ → Type 0
IsCut old new text = AppendsFront old.contents new.contents text × HasFailed old new

-- a text went out whole, unless the writer failed
abbrev pub Sends : Stream → Stream → List ℕ → Type 0
Sends old new text = WentOut old new text ⊎ IsCut old new text
