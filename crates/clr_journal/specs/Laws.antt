-- LAWS OF JOURNALS
use Rattle.std.specs.Prelude.{◌≡◌, ◌≤◌, ◌^◌, ◌&&◌, ℕ, nat_lt, Bool, true, false, ⊤}
use Rattle.std.specs.Prelude.{List, [], ◌∷◌, ◌++◌, length, take, Option, None, Some, Ok}
use Rattle.std.specs.Prelude.{bytes_eq, codes, if◌then◌else◌}
use Rattle.std.specs.List.{list_any}
use Rattle.std.specs.Str.{is_utf8}
use Rattle.serde_json.specs.Data.{Data, Members, array, boolean, depth, member, no_members, null}
use Rattle.serde_json.specs.Data.{number, object, string}
use Rattle.clr_journal.specs.Lines.{is_line_feed}
use Rattle.clr_changes.specs.Deeds.{Deed, archive, command, update}
use Rattle.clr_journal.specs.Delta.{can_be_said}
use Rattle.clr_rules.specs.Moment.{is_moment}
use Rattle.clr_text.specs.CommandLaws.{is_plain}
use Rattle.clr_text.specs.CommandText.{can_be_sent}
use Rattle.clr_journal.specs.Journals.{carried_out, first_turn, in_turn, is_next, journal_text}
use Rattle.clr_journal.specs.Journals.{read_journal, turn_after}
use Rattle.clr_journal.specs.Line.{Entry, carried, withdrawn, is_accepted, line_text, read_line}
use Rattle.clr_journal.specs.declared.line.Receipt.{Receipt}
use Rattle.clr_journal.specs.declared.reading.Turn.{Turn}

-- THE TEXT OF A LINE HAS NO LINE FEED
abbrev pub LinesAreOneLine : Type 0
LinesAreOneLine = (entry : Entry) → list_any is_line_feed (line_text entry) ≡ false

-- a login is in UTF-8
abbrev pub login_is_text : Option (List ℕ) → Bool
login_is_text None = true
login_is_text (Some text) = is_utf8 text

abbrev pub is_no_login : Option (List ℕ) → Bool
is_no_login None = true
is_no_login (Some text) = false

-- a reply is that of an update or of an archive
abbrev pub is_done_member : Members → Bool
is_done_member no_members = false
is_done_member (member key (string text) no_members) =
    bytes_eq key (codes "reply") && bytes_eq text (codes "accepted")
is_done_member (member key d others) = false

abbrev pub is_done : Data → Bool
is_done null = false
is_done (boolean b) = false
is_done (number n) = false
is_done (string s) = false
is_done (array ds) = false
is_done (object ms) = is_done_member ms

-- A LINE CAN BE WRITTEN: its numbers have 64 bits, its command can be sent, and its texts are
-- UTF-8; so is its reply, a value of texts and whole numbers that does not nest deep. Changes can be
-- said, and a line of them has no login and one reply; so has one of an archive
abbrev pub can_be_written : Entry → Bool
can_be_written (carried receipt (command q) reply) =
    nat_lt receipt.number (2 ^ 64) && (nat_lt receipt.received (2 ^ 64)
    && (login_is_text receipt.login && (can_be_sent q
    && (is_plain reply && nat_lt (depth reply) 127))))
can_be_written (carried receipt (update of) reply) =
    nat_lt receipt.number (2 ^ 64) && (nat_lt receipt.received (2 ^ 64)
    && (is_no_login receipt.login && (can_be_said of && is_done reply)))
can_be_written (carried receipt (archive before) reply) =
    nat_lt receipt.number (2 ^ 64) && (nat_lt receipt.received (2 ^ 64)
    && (is_no_login receipt.login && (is_moment before && is_done reply)))
can_be_written (withdrawn n) = nat_lt n (2 ^ 64)

-- A LINE THAT CAN BE WRITTEN is read from its text
abbrev pub LinesReadBack : Type 0
LinesReadBack = (entry : Entry) → can_be_written entry ≡ true
    → read_line (line_text entry) ≡ Some entry

-- its reply nests no deeper than any that is read
abbrev pub IsShallow : Entry → Type 0
IsShallow (carried receipt deed reply) = depth reply ≤ 127
IsShallow (withdrawn n) = ⊤

-- each of these lines is read from its text
abbrev pub ReadBack : List Entry → Type 0
ReadBack [] = ⊤
ReadBack (entry ∷ rest) = (read_line (line_text entry) ≡ Some entry) × ReadBack rest

-- A JOURNAL READS BACK: lines in turn, each of which reads back, are read from the bytes of their
-- journal; what comes after the last line feed is passed over
abbrev pub JournalsReadBack : Type 0
JournalsReadBack = (entries : List Entry) (unfinished : List ℕ)
    → ReadBack entries → in_turn first_turn entries ≡ true
    → list_any is_line_feed unfinished ≡ false
    → read_journal (journal_text entries ++ unfinished) ≡ Ok entries

-- A FRONT OF A JOURNAL, cut anywhere after its first lines, reads as these lines and the first of
-- those after them: so does a copy that is made while it is written, and what a crash leaves that
-- takes nothing but an end
abbrev pub FrontsRead : Type 0
FrontsRead = (kept more : List Entry) (n : ℕ)
    → ReadBack (kept ++ more) → in_turn first_turn (kept ++ more) ≡ true
    → length (journal_text kept) ≤ n
    → (k : ℕ) × (read_journal (take n (journal_text (kept ++ more))) ≡ Ok (kept ++ take k more))

-- the turn after these lines
abbrev pub turn_behind : Turn → List Entry → Turn
turn_behind turn [] = turn
turn_behind turn (entry ∷ rest) = turn_behind (turn_after entry) rest

-- A LINE MORE is in turn where it is the next; and the bytes are those with the line more
abbrev pub LinesGrow : Type 0
LinesGrow = (turn : Turn) (entries : List Entry) (entry : Entry)
    → in_turn turn entries ≡ true → is_next (turn_behind turn entries) entry ≡ true
    → (in_turn turn (entries ++ entry ∷ []) ≡ true)
    × (journal_text (entries ++ entry ∷ []) ≡ journal_text entries ++ (line_text entry ++ 10 ∷ []))

-- an accepted deed, with its reply
abbrev pub if_accepted : Deed → Data → List (Deed × Data)
if_accepted deed reply = if is_accepted reply then (deed, reply) ∷ [] else []

-- A DEED MORE is carried out where it is accepted; one that the next line withdraws is not
abbrev pub DeedsGrow : Type 0
DeedsGrow = (entries : List Entry) (receipt : Receipt) (deed : Deed) (reply : Data)
    → carried_out (entries ++ carried receipt deed reply ∷ [])
    ≡ carried_out entries ++ if_accepted deed reply

abbrev pub WithdrawnIsLeftOut : Type 0
WithdrawnIsLeftOut = (entries : List Entry) (receipt : Receipt) (deed : Deed) (reply : Data) (n : ℕ)
    → carried_out (entries ++ carried receipt deed reply ∷ withdrawn n ∷ []) ≡ carried_out entries
