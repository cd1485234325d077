-- The digits of a length: they are text, and the number that they write is read from it.
use Rattle.std.proofs.Common.{◌≡◌, ℕ, ◌≤◌, true, ◌&&◌, nat_le, List, [], ◌∷◌, length, arith, rules, Result, Ok, IsAscii, IsUtf8, leb-true}
use Rattle.std.specs.Char.{is_ascii_digit}
use Rattle.clr_rules.proofs.Common.{list_all, and_parts}
use Rattle.std.specs.Str.Parse.{digits_value, ParsesUnsigned}
use Rattle.std.proofs.lemmas.Str.{IsUtf8-from_ascii}
use Rattle.std.proofs.lemmas.Str.Ascii.{IsAscii-nil, IsAscii-cons}
use Rattle.std.proofs.lemmas.Str.Parse.{IsNumeralModel, numerals_by_value, digits_value_short, parse_gives}
use Rattle.clr_http.specs.Length.{is_length}

digits_are_ascii : (ds : List ℕ) → list_all is_ascii_digit ds ≡ true → IsAscii ds
digits_are_ascii [] e = IsAscii-nil
digits_are_ascii (d ∷ ds) e =
    let (here, later) = and_parts (is_ascii_digit d) (list_all is_ascii_digit ds) e in
    let high = leb-true d 57 (and_parts (nat_le 48 d) (nat_le d 57) here).1 in
    IsAscii-cons d ds (omega arith) (digits_are_ascii ds later)

own : IsNumeralModel (λ ds. list_all is_ascii_digit ds ≡ true) (digits_value 10)
own = numerals_by_value (λ ds. list_all is_ascii_digit ds ≡ true) (search rules)

length_parts : (value : List ℕ) → is_length value ≡ true → (1 ≤ length value) × (length value ≤ 10) × (list_all is_ascii_digit value ≡ true)
length_parts value e =
    let (sized, digits) = and_parts (nat_le 1 (length value) && nat_le (length value) 10) (list_all is_ascii_digit value) e in
    let (some, few) = and_parts (nat_le 1 (length value)) (nat_le (length value) 10) sized in
    (leb-true 1 (length value) some, leb-true (length value) 10 few, digits)

pub lengths_are_text : (value : List ℕ) → is_length value ≡ true → IsUtf8 value
lengths_are_text value e = let (some, few, digits) = length_parts value e in IsUtf8-from_ascii value (digits_are_ascii value digits)

-- what `parse` gives of 1 to 10 digits
pub parsed : {E : Type 0} (value : List ℕ) (r : Result ℕ E) → is_length value ≡ true → ParsesUnsigned 64 10 value r → r ≡ Ok (digits_value 10 value)
parsed value r e p =
    let (some, few, digits) = length_parts value e in
    let small = digits_value_short own value 10 digits few in
    parse_gives own 64 value r p digits some (omega arith)
