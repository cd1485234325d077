-- What a text reads as, where a name is asked for.
use Rattle.std.specs.Prelude.{ℕ, nat_lt, not, ◌==◌, if◌then◌else◌, List, length, position, Option}
use Rattle.std.specs.Prelude.{Some, None, Result, Ok, Err}
use Rattle.clr_net.specs.Name.{is_name_byte}
use Rattle.clr_net.specs.declared.name.NameFault.{NameFault}
use Rattle.clr_net.specs.declared.name.NameFault.TheVariants.{Empty, TooLong, BadByte}

-- the place of the first byte that no name has
abbrev pub bad_byte : List ℕ → Option ℕ
bad_byte text = position (λ b. not (is_name_byte b)) text

-- the text, unless it has a byte that no name has
abbrev pub unless_bad_byte : List ℕ → Option ℕ → Result (List ℕ) NameFault
unless_bad_byte text None = Ok text
unless_bad_byte text (Some place) = Err (BadByte place)

-- the name that a text is, or the first of its faults: it is empty, it is too long, it has a byte
-- that no name has
abbrev pub read_name : List ℕ → Result (List ℕ) NameFault
read_name text =
    if length text == 0 then Err Empty
    else if nat_lt 24 (length text) then Err TooLong
    else unless_bad_byte text (bad_byte text)
