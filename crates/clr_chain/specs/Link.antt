-- HOW A LINE OF A CHAIN IS WRITTEN, AND READ: it is a line of a journal with its sum, one JSON
-- object without blanks, its keys in the order of their bytes.
use Rattle.std.specs.Prelude.{ℕ, Bool, false, ◌&&◌, not, List, codes, Option, None, Some}
use Rattle.std.specs.Prelude.{bytes_eq, if◌then◌else◌, option_and_then}
use Rattle.serde_json.specs.Data.{Data, object, put, string}
use Rattle.serde_json.specs.Written.{compact_text, has_float}
use Rattle.clr_journal.specs.Journals.{is_next, turn_after}
use Rattle.clr_journal.specs.Line.{Entry, carried, entry_data, read_line, withdrawn}
use Rattle.clr_chain.specs.Sums.{sum_after}
use Rattle.clr_chain.specs.declared.chain_end.ChainEnd.{ChainEnd}

-- an object with a sum
abbrev pub with_sum : List ℕ → Data → Data
with_sum sum (object ms) = object (put (codes "sum") (string sum) ms)
with_sum sum d = d

abbrev pub link_data : Entry → List ℕ → Data
link_data entry sum = with_sum sum (entry_data entry)

-- THE TEXT OF A LINE WITH ITS SUM, without its line feed
unfoldable pub link_text : Entry → List ℕ → List ℕ
link_text entry sum = compact_text (link_data entry sum)

-- ---- reading

-- a number of its reply is no whole number: no reply has one
abbrev pub has_fraction : Entry → Bool
has_fraction (carried receipt q reply) = has_float reply
has_fraction (withdrawn n) = false

-- ITS OWN FORM: the text is byte for byte the one that is written for the line with this sum. So a
-- key more, a blank, or a key given twice is not read
abbrev pub is_own : Entry → List ℕ → List ℕ → Bool
is_own entry sum text = not (has_fraction entry) && bytes_eq text (link_text entry sum)

abbrev pub if_own : List ℕ → List ℕ → Entry → Option Entry
if_own sum text entry = if is_own entry sum text then Some entry else None

-- WHAT A TEXT SAYS, if it is a line with this sum
unfoldable pub read_link : List ℕ → List ℕ → Option Entry
read_link sum text = option_and_then (if_own sum text) (read_line text)

-- ---- the next line of a chain

-- the end of a chain after a line more
abbrev pub end_after : ChainEnd → Entry → ChainEnd
end_after end entry = record { turn = turn_after entry; sum = sum_after end.sum entry }

-- IT HOLDS ITS SUM: it is the next line, and its sum is of the sum before it and of the line
abbrev pub if_holds : ChainEnd → List ℕ → Entry → Option Entry
if_holds end text entry =
    if is_next end.turn entry && is_own entry (sum_after end.sum entry) text
    then Some entry else None

-- what a text says, if it is the next line of a chain and holds its sum
unfoldable pub next_link : ChainEnd → List ℕ → Option Entry
next_link end text = option_and_then (if_holds end text) (read_line text)
