-- WHAT A JOURNAL SAYS: its lines, each the next of the one before; and the deeds that were carried
-- out.
use Rattle.std.specs.Prelude.{◌+◌, ◌-◌, ◌^◌, ◌==◌, ◌&&◌, ℕ, Bool, true, false, not, min}
use Rattle.std.specs.Prelude.{List, [], ◌∷◌, map, Option, None, Some, Result, Ok, ok_or}
use Rattle.std.specs.Prelude.{if◌then◌else◌, option_and_then}
use Rattle.serde_json.specs.Data.{Data}
use Rattle.clr_journal.specs.Lines.{ended_lines, text_of}
use Rattle.clr_net.specs.Results.{◌>>=◌}
use Rattle.clr_changes.specs.Deeds.{Deed}
use Rattle.clr_journal.specs.Line.{Entry, carried, withdrawn, is_accepted, line_text, read_line}
use Rattle.clr_journal.specs.declared.reading.Turn.{Turn}

-- before the first line no deed has a number, and none may be withdrawn
abbrev pub first_turn : Turn
first_turn = record { last = 0; is_open = false }

-- WHICH LINE IS THE NEXT: deeds are numbered from 1 on; the last one may be withdrawn where
-- it was accepted, before the next one
abbrev pub is_next : Turn → Entry → Bool
is_next turn (carried receipt deed reply) = receipt.number == turn.last + 1
is_next turn (withdrawn n) = turn.is_open && (n == turn.last)

abbrev pub turn_after : Entry → Turn
turn_after (carried receipt deed reply) =
    record { last = receipt.number; is_open = is_accepted reply }
turn_after (withdrawn n) = record { last = n; is_open = false }

-- THE LINES ARE IN TURN
unfoldable pub in_turn : Turn → List Entry → Bool
in_turn turn [] = true
in_turn turn (entry ∷ rest) = is_next turn entry && in_turn (turn_after entry) rest

-- ---- reading

abbrev pub if_next : Turn → Entry → Option Entry
if_next turn entry = if is_next turn entry then Some entry else None

-- what a text says, if it is a line and the next
abbrev pub next_line : Turn → List ℕ → Option Entry
next_line turn text = option_and_then (if_next turn) (read_line text)

-- the place of the next line, counted from 1; it stops at the greatest number
abbrev pub next_place : ℕ → ℕ
next_place place = min (place + 1) (2 ^ 64 - 1)

-- why bytes are no journal: the line at this place is no line, or not the next
pub data JournalFault : Type 0 where
  bad_line : ℕ → JournalFault

-- the lines of these texts, or the place of the first that is no line, or not the next
unfoldable pub lines_read : ℕ → Turn → List (List ℕ) → Result (List Entry) JournalFault
lines_read place turn [] = Ok []
lines_read place turn (text ∷ texts) =
    ok_or (next_line turn text) (bad_line place)
    >>= λ entry. lines_read (next_place place) (turn_after entry) texts
    >>= λ rest. Ok (entry ∷ rest)

-- THE LINES OF A JOURNAL, by its bytes: those that a line feed ends
abbrev pub read_journal : List ℕ → Result (List Entry) JournalFault
read_journal bytes = lines_read 1 first_turn (ended_lines bytes)

-- the bytes of a journal with these lines
abbrev pub journal_text : List Entry → List ℕ
journal_text entries = text_of (map line_text entries)

-- ---- the deeds

-- the next line withdraws
abbrev pub withdraws : List Entry → Bool
withdraws [] = false
withdraws (carried receipt deed reply ∷ rest) = false
withdraws (withdrawn n ∷ rest) = true

-- a deed that was accepted and is not withdrawn, with its reply
abbrev pub own_pair : Entry → List Entry → Option (Deed × Data)
own_pair (withdrawn n) rest = None
own_pair (carried receipt deed reply) rest =
    if is_accepted reply && not (withdraws rest) then Some (deed, reply) else None

abbrev pub onto_some : {A : Type 0} → Option A → List A → List A
onto_some None xs = xs
onto_some (Some x) xs = x ∷ xs

-- THE DEEDS THAT WERE CARRIED OUT, each with its reply
unfoldable pub carried_out : List Entry → List (Deed × Data)
carried_out [] = []
carried_out (entry ∷ rest) = onto_some (own_pair entry rest) (carried_out rest)

abbrev pub deeds_of : List Entry → List Deed
deeds_of entries = map (λ pair. pair.0) (carried_out entries)
