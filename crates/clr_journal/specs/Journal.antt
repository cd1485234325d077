-- WHAT A JOURNAL HAS, and what a crash leaves of it.
use Rattle.std.specs.Prelude.{◌≡◌, ℕ, ◌+◌, ◌<◌, ◌≤◌, min, max, List, [], ◌∷◌, ◌++◌, length, take}
use Rattle.std.specs.Prelude.{slice_index}

-- the text with a line more, and its line feed
abbrev pub with_line : List ℕ → List ℕ → List ℕ
with_line text line = text ++ (line ++ 10 ∷ [])

-- these bytes begin with that text
abbrev pub BeginsWith : List ℕ → List ℕ → Type 0
BeginsWith text bytes = take (length text) bytes ≡ text

-- bytes of which those below `at` stay, and at most n are written from there on
pub record Grown (at n : ℕ) (old new : List ℕ) : Type 0 where
  pub no_shorter : min (length old) at ≤ length new
  pub no_longer : length new ≤ max (length old) (at + n)
  pub below : (i : ℕ) → i < length old → i < at → slice_index new i ≡ slice_index old i
