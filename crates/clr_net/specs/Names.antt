-- Lists of names.
use Rattle.std.specs.Prelude.{ℕ, Bool, List, [], length, take, position, Option}
use Rattle.std.specs.List.{list_any, range_with_len, slice_index_or}
use Rattle.clr_net.specs.Name.{same_name}

-- whether a name is in a list
abbrev pub has_name : List (List ℕ) → List ℕ → Bool
has_name names name = list_any (same_name name) names

-- whether the name at a place comes at an earlier place too
abbrev pub is_repeat : List (List ℕ) → ℕ → Bool
is_repeat names place = has_name (take place names) (slice_index_or names place [])

-- the first place whose name comes at an earlier place too
abbrev pub repeat_place : List (List ℕ) → Option ℕ
repeat_place names = position (is_repeat names) (range_with_len 0 (length names))
