-- THE FIRST LINE OF A JOURNAL is a place: the id of the register's journal, and the number and the
-- sum after which its lines go on. They are those of the last line of the part before it; in a
-- first part the number is 0. It names the rules by which its deeds were answered.
use Rattle.std.specs.Prelude.{◌==◌, ◌≡◌, ◌^◌, ℕ, nat_lt, List, codes, Option, None, Some, bytes_eq}
use Rattle.std.specs.Prelude.{if◌then◌else◌, true, false, option_and_then, option_map}
use Rattle.std.specs.Str.{is_utf8}
use Rattle.serde_json.specs.Data.{Data, member, no_members, object, string}
use Rattle.serde_json.specs.Find.{as_str}
use Rattle.serde_json.specs.Written.{compact_text}
use Rattle.clr_text.specs.Json.{whole_data}
use Rattle.clr_text.specs.Reading.{value_of}
use Rattle.clr_text.specs.Values.{whole}
use Rattle.clr_journal.specs.Line.{at_key}
use Rattle.clr_journal.specs.declared.reading.Turn.{Turn}
use Rattle.clr_chain.specs.declared.chain_end.ChainEnd.{ChainEnd}
use Rattle.clr_chain.specs.declared.first.TheConstants.{RULES}
use Rattle.clr_rules.specs.declared.place.Place.{Place}

-- THE RULES that the program goes by: the number that `src/first.rt` has
abbrev pub rules : ℕ
rules = RULES

abbrev pub first_data_by : ℕ → Place → Data
first_data_by number place =
    object (member (codes "journal") (string place.id)
    (member (codes "number") (whole_data place.number)
    (member (codes "rules") (whole_data number)
    (member (codes "sum") (string place.sum) no_members))))

-- the text of a first line that names the rules of this number, without its line feed
unfoldable pub first_text_by : ℕ → Place → List ℕ
first_text_by number place = compact_text (first_data_by number place)

abbrev pub first_data : Place → Data
first_data place = first_data_by rules place

-- THE TEXT OF A FIRST LINE, without its line feed
unfoldable pub first_text : Place → List ℕ
first_text place = first_text_by rules place

-- A PLACE CAN BE PRINTED: its number has 64 bits, and its texts are UTF-8
pub record CanBePrinted (place : Place) : Type 0 where
  pub number : nat_lt place.number (2 ^ 64) ≡ true
  pub id : is_utf8 place.id ≡ true
  pub sum : is_utf8 place.sum ≡ true

abbrev pub place_in : Data → Option Place
place_in d =
    option_and_then (λ id. option_and_then (λ number. option_map (λ sum.
    record { id = id; number = number; sum = sum })
    (at_key as_str (codes "sum") d))
    (at_key whole (codes "number") d))
    (at_key as_str (codes "journal") d)

abbrev pub if_own_place : List ℕ → Place → Option Place
if_own_place text place = if bytes_eq text (first_text place) then Some place else None

-- WHAT A TEXT SAYS, if it is a first line in its own form
unfoldable pub read_first : List ℕ → Option Place
read_first text = option_and_then (if_own_place text) (option_and_then place_in (value_of text))

-- ---- other rules

abbrev pub if_by : List ℕ → ℕ → Place → Option ℕ
if_by text number place = if bytes_eq text (first_text_by number place) then Some number else None

abbrev pub if_other : List ℕ → Data → ℕ → Option ℕ
if_other text d number =
    if number == rules then None else option_and_then (if_by text number) (place_in d)

-- WHICH OTHER RULES A TEXT NAMES, if it is a first line in its own form but for the number of the
-- rules
unfoldable pub other_rules_in : List ℕ → Option ℕ
other_rules_in text = option_and_then
    (λ d. option_and_then (if_other text d) (at_key whole (codes "rules") d)) (value_of text)

-- ---- the end of a chain

-- the end of a chain that has its first line alone: no deed is open
abbrev pub first_turn_at : Place → Turn
first_turn_at place = record { last = place.number; is_open = false }

abbrev pub end_at : Place → ChainEnd
end_at place = record { turn = first_turn_at place; sum = place.sum }
