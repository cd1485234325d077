-- LAWS OF CHAINS
use Rattle.std.specs.Prelude.{◌≡◌, ◌≢◌, ◌≤◌, ◌⊎◌, ℕ, true, false, List, [], ◌∷◌, ◌++◌, length}
use Rattle.std.specs.Prelude.{◌^◌, bytes_eq, map, nat_lt, take, Some}
use Rattle.std.specs.List.{AllByRecursion, list_any}
use Rattle.std.specs.Str.{is_utf8}
use Rattle.clr_journal.specs.Lines.{ended_lines, is_line_feed, text_of, with_feed}
use Rattle.clr_rules.specs.Register.{Register}
use Rattle.clr_changes.specs.Deeds.{Deed, after_deed}
use Rattle.clr_journal.specs.Answered.{deed_reply}
use Rattle.clr_journal.specs.Journals.{carried_out, is_next, withdraws}
use Rattle.clr_journal.specs.Laws.{IsShallow, can_be_written, turn_behind}
use Rattle.clr_journal.specs.Line.{Entry, carried, is_accepted, line_text, withdrawn}
use Rattle.clr_journal.specs.declared.line.Receipt.{Receipt}
use Rattle.clr_chain.specs.Chain.{ReadOn, read_on}
use Rattle.clr_chain.specs.Finding.{Found, ahead, first_of, found_in, other_rules}
use Rattle.clr_chain.specs.First.{end_at, first_text, first_text_by, first_turn_at, read_first}
use Rattle.clr_chain.specs.First.{rules}
use Rattle.clr_chain.specs.Level.{IsLevel, IsRunOf, place_after}
use Rattle.clr_chain.specs.Link.{link_text, read_link}
use Rattle.clr_chain.specs.Near.{SayNothing, found_near, stopped}
use Rattle.clr_chain.specs.Opening.{CanBegin, new_text}
use Rattle.clr_chain.specs.Sums.{Files, first_sum, sum_behind, sum_of}
use Rattle.clr_chain.specs.Walking.{holds, walk}
use Rattle.clr_chain.specs.declared.chain_end.ChainEnd.{ChainEnd}
use Rattle.clr_rules.specs.declared.place.Place.{Place}

-- ---- texts

-- THE TEXT OF A LINE HAS NO LINE FEED
abbrev pub LinksAreOneLine : Type 0
LinksAreOneLine = (entry : Entry) (sum : List ℕ)
    → list_any is_line_feed (link_text entry sum) ≡ false

abbrev pub FirstsAreOneLine : Type 0
FirstsAreOneLine = (place : Place) → list_any is_line_feed (first_text place) ≡ false

-- A LINE THAT CAN BE WRITTEN is read from its text
abbrev pub LinksReadBack : Type 0
LinksReadBack = (entry : Entry) (sum : List ℕ) → can_be_written entry ≡ true → is_utf8 sum ≡ true
    → read_link sum (link_text entry sum) ≡ Some entry

-- A TEXT IS READ IN ITS OWN FORM ALONE: it is the one that is written for the line
abbrev pub LinksAreOwn : Type 0
LinksAreOwn = (entry : Entry) (sum text : List ℕ) → read_link sum text ≡ Some entry
    → text ≡ link_text entry sum

-- A FIRST LINE THAT CAN BE WRITTEN is read from its text
abbrev pub FirstsReadBack : Type 0
FirstsReadBack = (first : Place) → CanBegin first → read_first (first_text first) ≡ Some first

-- ---- sums

-- A COLLISION of SHA-256: two texts that differ and have one sum
pub record Collision : Type 0 where
  pub one : List ℕ
  pub other : List ℕ
  pub differ : one ≢ other
  pub sum : sum_of one ≡ sum_of other

-- ALL THAT A SUM SAYS: the files, the id and each line up to it
pub record AreSame (files files' : Files) (id id' : List ℕ) (entries entries' : List Entry)
    : Type 0 where
  pub sections : files.sections ≡ files'.sections
  pub points : files.points ≡ files'.points
  pub staff : files.staff ≡ files'.staff
  pub ids : id ≡ id'
  pub lines : map line_text entries ≡ map line_text entries'

-- TWO JOURNALS WITH ONE SUM ARE THE SAME up to it, byte for byte; or a collision is shown
abbrev pub SameSumSameJournal : Type 0
SameSumSameJournal = (files files' : Files) (id id' : List ℕ) (entries entries' : List Entry)
    → sum_behind (first_sum files id) entries ≡ sum_behind (first_sum files' id') entries'
    → AreSame files files' id id' entries entries' ⊎ Collision

-- ---- reading line by line

-- A WALK READS ON: its first steps are the lines that hold their sums, up to the first that does
-- not; then it goes on from there
abbrev pub WalksReadOn : Type 0
WalksReadOn = (end : ChainEnd) (texts : List (List ℕ)) → walk end texts
    ≡ map holds (ReadOn.entries (read_on end texts))
    ++ walk (ReadOn.end (read_on end texts)) (ReadOn.left (read_on end texts))

-- ---- level

-- the line of a deed that this register answers
abbrev pub line_at : Register → Receipt → Deed → Entry
line_at R receipt deed = carried receipt deed (deed_reply R deed)

-- A NEW JOURNAL IS LEVEL with the register that it begins with, at its first line
abbrev pub NewJournalsAreLevel : Type 0
NewJournalsAreLevel = (R : Register) (start : Place) → IsLevel R start [] start R

-- A LINE MORE KEEPS LEVEL, whatever it says, but for one that withdraws the register's own deed
abbrev pub LinesKeepLevel : Type 0
LinesKeepLevel = (first R : Register) (start place : Place) (entries : List Entry) (entry : Entry)
    (level : IsLevel first start entries place R)
    → is_next (turn_behind (first_turn_at start) entries) entry ≡ true
    → withdraws (IsLevel.more level ++ entry ∷ []) ≡ false
    → IsLevel first start (entries ++ entry ∷ []) place R

-- A DEED CARRIED OUT KEEPS LEVEL, with its place: it is the next that was accepted and not
-- withdrawn, whether its line is new or was there
abbrev pub StepsKeepLevel : Type 0
StepsKeepLevel = (first R : Register) (start place : Place) (entries : List Entry)
    (level : IsLevel first start entries place R)
    → (idle rest : List Entry) (receipt : Receipt) (deed : Deed)
    → IsLevel.more level ≡ idle ++ line_at R receipt deed ∷ rest
    → carried_out idle ≡ [] → is_accepted (deed_reply R deed) ≡ true
    → withdraws rest ≡ false
    → IsLevel first start entries
    (place_after start (IsLevel.had level ++ idle ++ line_at R receipt deed ∷ [])) (after_deed R deed)

-- A LOST TAIL IS MADE GOOD: where all lines of a journal are those of a run, the lines after the
-- register's place are those of a run from it, to the same register and with the same replies
abbrev pub LostTailsAreMadeGood : Type 0
LostTailsAreMadeGood = (first R S : Register) (start place : Place) (entries : List Entry)
    (level : IsLevel first start entries place R)
    → IsRunOf first (carried_out entries) S
    → IsRunOf R (carried_out (IsLevel.more level)) S

-- ---- opening

-- THE END OF A JOURNAL SAYS what is found in all of it, whatever comes before the end
abbrev pub EndsSayAll : Type 0
EndsSayAll = (place first : Place) (front tail : List ℕ) (found : Found)
    → first_of (front ++ tail) ≡ Some first → bytes_eq first.id place.id ≡ true
    → found_near place first tail ≡ Some found
    → found_in place (front ++ tail) ≡ found

-- WHAT IS CUT OFF IS NOT MISSED: the same lines are found, with the same end of the chain, whatever
-- says nothing comes after the last of them in its place
abbrev pub CutsAreNotMissed : Type 0
CutsAreNotMissed = (place : Place) (bytes other : List ℕ) (kept : List (List ℕ)) (read : ReadOn)
    → found_in place bytes ≡ ahead read → ended_lines bytes ≡ kept ++ read.left
    → SayNothing place read.end (ended_lines other)
    → found_in place (text_of kept ++ other) ≡ ahead (record read { left = ended_lines other })

-- A FRONT OF A JOURNAL, cut anywhere after these lines, is found the same: so does what a crash
-- leaves that takes nothing but an end
abbrev pub FrontsAreFound : Type 0
FrontsAreFound = (place : Place) (bytes : List ℕ) (kept : List (List ℕ)) (read : ReadOn) (n : ℕ)
    → found_in place bytes ≡ ahead read → ended_lines bytes ≡ kept ++ read.left
    → length (text_of kept) ≤ n
    → (k : ℕ) × (found_in place (take n bytes) ≡ ahead (record read { left = take k read.left }))

-- LINES AHEAD GO ON FROM THE REGISTER: the first does not withdraw the register's own deed
abbrev pub LinesAheadGoOn : Type 0
LinesAheadGoOn = (place : Place) (bytes : List ℕ) (read : ReadOn)
    → found_in place bytes ≡ ahead read → withdraws read.entries ≡ false

-- AND NONE OF THEIR REPLIES NESTS DEEPER THAN 127
abbrev pub LinesAheadAreShallow : Type 0
LinesAheadAreShallow = (place : Place) (bytes : List ℕ) (read : ReadOn)
    → found_in place bytes ≡ ahead read → AllByRecursion IsShallow read.entries

-- A NEW JOURNAL OPENS at its own place, with no line after it
abbrev pub NewJournalsOpen : Type 0
NewJournalsOpen = (first : Place) → CanBegin first
    → found_in first (new_text first) ≡ ahead (stopped (end_at first) [])

-- A JOURNAL BY OTHER RULES SAYS WHICH, wherever the register is, and whatever comes after its first
-- line
abbrev pub OthersAreFound : Type 0
OthersAreFound = (number : ℕ) (place first : Place) (more : List ℕ) → CanBegin first
    → nat_lt number (2 ^ 64) ≡ true → number ≢ rules
    → length (with_feed (first_text_by number first)) ≤ 4096
    → found_in place (with_feed (first_text_by number first) ++ more) ≡ other_rules number
