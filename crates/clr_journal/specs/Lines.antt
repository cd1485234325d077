-- THE LINES OF A TEXT: those that a line feed ends. What comes after the last line feed is none
-- yet.
use Rattle.std.specs.Prelude.{ℕ, Bool, ◌==◌, List, [], ◌∷◌, ◌++◌, Option, None, Some}
use Rattle.std.specs.List.{flat_map, slice_split}

abbrev pub is_line_feed : ℕ → Bool
is_line_feed b = b == 10

-- all but the last
abbrev pub but_last : List (List ℕ) → List (List ℕ)
but_last [] = []
but_last (piece ∷ []) = []
but_last (piece ∷ next ∷ rest) = piece ∷ but_last (next ∷ rest)

-- the last
abbrev pub last_of : List (List ℕ) → Option (List ℕ)
last_of [] = None
last_of (piece ∷ []) = Some piece
last_of (piece ∷ next ∷ rest) = last_of (next ∷ rest)

-- the pieces between the line feeds
abbrev pub pieces : List ℕ → List (List ℕ)
pieces = slice_split is_line_feed

-- THE LINES
abbrev pub ended_lines : List ℕ → List (List ℕ)
ended_lines text = but_last (pieces text)

-- what no line feed ends
abbrev pub unfinished : List ℕ → Option (List ℕ)
unfinished text = last_of (pieces text)

-- a line with its line feed
abbrev pub with_feed : List ℕ → List ℕ
with_feed line = line ++ 10 ∷ []

-- the text of these lines
abbrev pub text_of : List (List ℕ) → List ℕ
text_of lines = flat_map with_feed lines

-- a text without what no line feed ends
abbrev pub ended_text : List ℕ → List ℕ
ended_text text = text_of (ended_lines text)
