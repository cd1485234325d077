-- THE LINES OF A FILE, one after the other.
use Rattle.std.specs.Prelude.{◌≡◌, ◌<◌, ℕ, Bool, true, List, [], ◌∷◌, ◌++◌, None, Option, Some}
use Rattle.std.specs.Prelude.{Vec, drop, length, option_map}
use Rattle.std.specs.declared.alloc.Global.{Global}
use Rattle.clr_journal.specs.Lines.{ended_lines, is_line_feed}
use Rattle.clr_edge.specs.declared.lines.Lines.{Lines}

-- what was read and not given yet
abbrev pub held_of : Lines → List ℕ
held_of lines = drop lines.given lines.held.items

-- and with it what is left to read, where that is known
abbrev pub left_of : Lines → Option (List ℕ) → Option (List ℕ)
left_of lines rest = option_map (λ bytes. held_of lines ++ bytes) rest

-- THE NEXT LINE of what was left, and what is left after it; none where no line feed is left
abbrev pub IsNextLine : Option (Vec ℕ Global) → Option (List ℕ) → List ℕ → Type 0
IsNextLine None after bytes = ended_lines bytes ≡ []
IsNextLine (Some line) None bytes = ⊥
IsNextLine (Some line) (Some after) bytes =
    ended_lines bytes ≡ line.items ∷ ended_lines after

-- what was left has no line feed among its first bytes, and these are more than a line may have
abbrev pub IsTooLong : List ℕ → Type 0
IsTooLong bytes = (front : List ℕ) × (rest : List ℕ) × (bytes ≡ front ++ rest)
    × (ended_lines front ≡ []) × (4194304 < length front)

-- ---- the end of a file

-- A TEXT ENDS WHOLE: it has no byte, or its last is a line feed
abbrev pub ends_whole : List ℕ → Bool
ends_whole [] = true
ends_whole (b ∷ []) = is_line_feed b
ends_whole (b ∷ c ∷ rest) = ends_whole (c ∷ rest)

-- what is left after some of it ends as all of it does
abbrev pub EndsAs : Option (List ℕ) → List ℕ → Type 0
EndsAs None bytes = ⊥
EndsAs (Some after) bytes = ends_whole bytes ≡ ends_whole after
