-- WHAT AN OPENING FINDS in a journal at the place that a register has in it.
use Rattle.std.specs.Prelude.{ℕ, Bool, true, false, ◌==◌, nat_lt, List, [], ◌∷◌, Option, None, Some}
use Rattle.std.specs.Prelude.{bytes_eq, if◌then◌else◌, option_and_then, take}
use Rattle.std.specs.List.{list_any}
use Rattle.std.specs.Option.{option_map_or}
use Rattle.clr_journal.specs.Lines.{ended_lines}
use Rattle.clr_journal.specs.Journals.{next_place, turn_after, withdraws}
use Rattle.clr_journal.specs.Line.{Entry, carried, withdrawn, is_accepted, read_line}
use Rattle.clr_journal.specs.declared.reading.Turn.{Turn}
use Rattle.clr_chain.specs.Chain.{ReadOn, links_of, read_on}
use Rattle.clr_chain.specs.First.{end_at, other_rules_in, read_first}
use Rattle.clr_chain.specs.Link.{is_own}
use Rattle.clr_chain.specs.declared.chain_end.ChainEnd.{ChainEnd}
use Rattle.clr_rules.specs.declared.place.Place.{Place}

-- ---- the line of the register's number, from the last line back

-- it is met, and whether it has the register's sum; or a line with a lower number is met before it;
-- or neither. With it are the texts after that line
pub data Sought : Type 0 where
  met : Bool → Turn → List (List ℕ) → Sought
  passed : ℕ → List (List ℕ) → Sought
  unmet : Sought

abbrev pub sought_below : Place → ℕ → List (List ℕ) → Sought
sought_below place number after =
    if nat_lt number place.number then passed number after else unmet

-- what a line of the register's number is: one that withdraws the deed may come after the
-- register's line, where it does not have the register's sum
abbrev pub sought_here : Bool → Entry → List (List ℕ) → Sought
sought_here true entry after = met true (turn_after entry) after
sought_here false (carried receipt q reply) after =
    met false (turn_after (carried receipt q reply)) after
sought_here false (withdrawn n) after = unmet

-- what one line is for a place
abbrev pub sought_at : Place → List ℕ → List (List ℕ) → Option Entry → Sought
sought_at place text after None = unmet
sought_at place text after (Some entry) =
    if (turn_after entry).last == place.number
    then sought_here (is_own entry place.sum text) entry after
    else sought_below place (turn_after entry).last after

-- the later one counts
abbrev pub or_earlier : Sought → Sought → Sought
or_earlier (met is_own turn after) earlier = met is_own turn after
or_earlier (passed number after) earlier = passed number after
or_earlier unmet earlier = earlier

unfoldable pub sought : Place → List (List ℕ) → Sought
sought place [] = unmet
sought place (text ∷ rest) =
    or_earlier (sought place rest) (sought_at place text rest (read_line text))

-- ---- what is found

-- THE JOURNAL GOES BY OTHER RULES, of this number; it is another register's; it does not have the
-- register's number; at the register's number it differs; the line of this number is bad; or these
-- lines come after the register's, with the end of the chain after them, and the texts after the
-- last of them, which were never synced
pub data Found : Type 0 where
  other_rules : ℕ → Found
  other_register : Found
  too_short : Found
  differs : ℕ → Found
  bad_line : ℕ → Found
  ahead : ReadOn → Found

abbrev pub accepts : Entry → Bool
accepts (carried receipt q reply) = is_accepted reply
accepts (withdrawn n) = false

-- a text says that a deed was accepted
abbrev pub says_accepted : List ℕ → Bool
says_accepted text = option_map_or accepts (read_line text) false

-- NO ACCEPTED LINE IS CUT OFF. A line that withdraws the register's own deed is of another
-- journal
abbrev pub found_after : ℕ → ReadOn → Found
found_after number read =
    if withdraws read.entries then differs number
    else if list_any says_accepted read.left then bad_line (next_place read.end.turn.last)
    else ahead read

-- the journal has a lower number, and not the register's
abbrev pub found_short : ℕ → List (List ℕ) → Found
found_short number after =
    if list_any says_accepted after then bad_line (next_place number) else too_short

-- no line has the register's number or a lower one: the first line may
abbrev pub found_at_first : Place → Place → List (List ℕ) → Found
found_at_first place first links =
    if first.number == place.number
    then (if bytes_eq first.sum place.sum
    then found_after place.number (read_on (end_at place) links) else differs place.number)
    else (if nat_lt first.number place.number
    then found_short first.number links else too_short)

abbrev pub end_of : Place → Turn → ChainEnd
end_of place turn = record { turn = turn; sum = place.sum }

abbrev pub found_by : Place → Place → List (List ℕ) → Sought → Found
found_by place first links (met true turn after) =
    found_after place.number (read_on (end_of place turn) after)
found_by place first links (met false turn after) = differs place.number
found_by place first links (passed number after) = found_short number after
found_by place first links unmet = found_at_first place first links

abbrev pub first_text_of : List (List ℕ) → Option (List ℕ)
first_text_of [] = None
first_text_of (text ∷ rest) = Some text

-- the first line, with its line feed, has at most 4,096 bytes
abbrev pub first_of : List ℕ → Option Place
first_of bytes = option_and_then read_first (first_text_of (ended_lines (take 4096 bytes)))

-- which other rules the first line names
abbrev pub other_rules_of : List ℕ → Option ℕ
other_rules_of bytes =
    option_and_then other_rules_in (first_text_of (ended_lines (take 4096 bytes)))

-- there is no first line by these rules: it may be one by others
abbrev pub found_unread : Option ℕ → Found
found_unread None = bad_line 0
found_unread (Some number) = other_rules number

abbrev pub found_from : Place → List (List ℕ) → Option ℕ → Option Place → Found
found_from place links other None = found_unread other
found_from place links other (Some first) =
    if bytes_eq first.id place.id
    then found_by place first links (sought place links) else other_register

-- WHAT IS FOUND in the bytes of a journal
unfoldable pub found_in : Place → List ℕ → Found
found_in place bytes =
    found_from place (links_of bytes) (other_rules_of bytes) (first_of bytes)
