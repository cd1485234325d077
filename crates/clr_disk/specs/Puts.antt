-- What goes out of a text, and is not missed where it does not.
use Rattle.std.specs.Prelude.{ℕ, ◌⊎◌, List}
use Rattle.clr_stream.specs.Streams.{Stream, WrotePart, WroteAll}

-- a text went out whole, or a front of it, and the writer failed
abbrev pub Puts : List ℕ → Stream → Stream → Type 0
Puts text old new = WroteAll text old new ⊎ ((count : ℕ) × WrotePart count text old new)
