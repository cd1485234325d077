-- THE FIELDS OF A HEAD, as the checks look at them.
use Rattle.std.specs.Prelude.{ℕ, Bool, nat_eq, List, [], ◌∷◌, filter, map, Option, None, Some}
use Rattle.std.specs.Char.{to_ascii_lowercase}
use Rattle.std.specs.Cmp.Lexicographic.{pointwise}
use Rattle.httparse.specs.Grammar.{RequestHead}
use Rattle.httparse.specs.Spans.{name_and_value}

-- a field: its name, and its value without the white space around it
abbrev pub Field : Type 0
Field = List ℕ × List ℕ

abbrev pub fields_of : RequestHead → List Field
fields_of head = map name_and_value head.fields

-- words that are the same without regard to ASCII case
abbrev pub same_word : List ℕ → List ℕ → Bool
same_word word other = pointwise nat_eq (map to_ascii_lowercase other)
    (map to_ascii_lowercase word)

-- field names compare without regard to ASCII case
abbrev pub is_called : List ℕ → Field → Bool
is_called name field = same_word name field.0

-- the value of the one field of a list: none has, and several have, none
abbrev pub only_value : List Field → Option (List ℕ)
only_value [] = None
only_value (field ∷ []) = Some field.1
only_value (field ∷ other ∷ rest) = None

-- the value of the one field of this name
abbrev pub only_field : List ℕ → List Field → Option (List ℕ)
only_field name fields = only_value (filter (is_called name) fields)
