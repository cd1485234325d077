-- What a text reads as, where a clearance is named.
use Rattle.std.specs.Prelude.{ℕ, Bool, false, ◌&&◌, ◌==◌, nat_le, if◌then◌else◌, List, [], ◌∷◌}
use Rattle.std.specs.Prelude.{length, Option, Some, None, Result, Ok, Err}
use Rattle.std.specs.Char.{is_ascii_digit}
use Rattle.std.specs.List.{after_first, before_first, list_all}
use Rattle.std.specs.Str.Parse.{digits_value}
use Rattle.clr_net.specs.NameText.{read_name}
use Rattle.clr_net.specs.declared.name.NameFault.{NameFault}
use Rattle.clr_rules.specs.Id.{Id, new_id}

-- one to four digits, the first not 0
abbrev pub is_numeral : List ℕ → Bool
is_numeral [] = false
is_numeral (first ∷ rest) =
    (nat_le 49 first && nat_le first 57) && (nat_le (length rest) 3 && list_all is_ascii_digit rest)

abbrev pub read_number : List ℕ → Option ℕ
read_number text = if is_numeral text then Some (digits_value 10 text) else None

abbrev pub is_slash : ℕ → Bool
is_slash b = b == 47

-- the clearance of this requester and number, if both were read
abbrev pub id_of : Result (List ℕ) NameFault → Option ℕ → Option Id
id_of (Ok requester) (Some number) = new_id requester number
id_of (Ok requester) None = None
id_of (Err fault) number = None

-- the clearance that a text names: its requester comes before the first slash, its number follows
-- it
abbrev pub read_id : List ℕ → Option Id
read_id text =
    id_of (read_name (before_first is_slash text)) (read_number (after_first is_slash text))
