-- The words that a command line gave to the arguments of its subcommand, and the numbers that they
-- say.
use Rattle.std.specs.Prelude.{ℕ, ℤ, Bool, false, if◌then◌else◌, List, [], Option, Some, None}
use Rattle.std.specs.Prelude.{codes, neg_ℤ, option_map, pos, unwrap_or}
use Rattle.std.specs.Str.{bytes_eq}
use Rattle.std.specs.Str.Parse.{digits_value, signed_digits_value, without_leading_plus}
use Rattle.clap.specs.ValueTests.{is_signed_in, is_unsigned_in}
use Rattle.clap.specs.Words.{Row, all_of, first_of}

-- the word of an argument; the empty word where it has none
abbrev pub word_in : List Row → List ℕ → List ℕ
word_in rows id = unwrap_or (first_of id rows) []

-- the words of an argument that may be given any number of times
abbrev pub words_in : List Row → List ℕ → List (List ℕ)
words_in rows id = unwrap_or (all_of id rows) []

-- the minutes that the word of `--offset` says; 0 where it is not given, or says no number from -720
-- to 840
abbrev pub offset_in : Option (List ℕ) → ℤ
offset_in None = pos 0
offset_in (Some word) = if is_signed_in (neg_ℤ (pos 720)) (pos 840) word
    then signed_digits_value 10 word else pos 0

-- the number that the word of an option says; 1 where it is not given, or says no number from 1 to
-- the greatest one
abbrev pub number_in : ℕ → Option (List ℕ) → ℕ
number_in most None = 1
number_in most (Some word) = if is_unsigned_in 1 most word
    then digits_value 10 (without_leading_plus word) else 1

-- the moment that the word of `--before` says; 0 where it is not given, or says none from 0 to the
-- last one
abbrev pub moment_in : Option (List ℕ) → ℕ
moment_in None = 0
moment_in (Some word) = if is_unsigned_in 0 4102444799 word
    then digits_value 10 (without_leading_plus word) else 0

-- the seconds that the word of `--deadline` says, where it is given
abbrev pub deadline_in : Option (List ℕ) → Option ℕ
deadline_in = option_map (λ word. number_in 600 (Some word))

-- whether a word was given that has no value: its row then says `true`
abbrev pub flag_in : Option (List ℕ) → Bool
flag_in None = false
flag_in (Some word) = bytes_eq word (codes "true")
