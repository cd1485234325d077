-- WHAT IT IS TO OPEN A JOURNAL at the place of a register: what was never synced after the last line
-- that holds its sum is cut off. And what a new journal is.
use Rattle.std.specs.Prelude.{◌≡◌, ◌≤◌, ◌^◌, ℕ, nat_lt, true, List, [], ◌++◌, length, map}
use Rattle.std.specs.Prelude.{⊤}
use Rattle.std.specs.Str.{is_utf8}
use Rattle.clr_journal.specs.Lines.{ended_lines, ended_text, with_feed}
use Rattle.clr_journal.specs.Line.{entry_of}
use Rattle.clr_journal.specs.Opening.{FailedToCut}
use Rattle.clr_chain.specs.Chain.{ReadOn}
use Rattle.clr_chain.specs.Finding.{Found, ahead, bad_line, differs, found_in, other_register}
use Rattle.clr_chain.specs.Finding.{other_rules, too_short}
use Rattle.clr_chain.specs.First.{first_text}
use Rattle.clr_chain.specs.declared.fault.ChainFault.{ChainFault}
use Rattle.clr_chain.specs.declared.fault.ChainFault.TheVariants as fault
use Rattle.clr_chain.specs.declared.finding.Ahead.{Ahead as SeenAhead}
use Rattle.clr_rules.specs.declared.place.Place.{Place}

-- these lines, and then these texts
abbrev pub read_ahead : SeenAhead → List (List ℕ) → ReadOn
read_ahead seen left = record { entries = map entry_of seen.lines.items; end = seen.end; left = left }

-- A JOURNAL OF THESE BYTES IS OPENED with these lines after the place and with this text: it goes
-- up to the last of them, and a line feed ends each of its lines; and what is found in it is what
-- was found, with nothing after it
pub record IsOpened (place : Place) (bytes : List ℕ) (seen : SeenAhead) (text : List ℕ)
    : Type 0 where
  pub cut : List ℕ
  pub is : bytes ≡ text ++ cut
  pub ended : ended_text text ≡ text
  pub found : found_in place bytes ≡ ahead (read_ahead seen (ended_lines cut))
  pub again : found_in place text ≡ ahead (read_ahead seen [])

-- WHY A JOURNAL IS REFUSED, by what is found in it
abbrev pub Refuses : ChainFault → Found → Type 0
Refuses (fault.OtherRules number) found = found ≡ other_rules number
Refuses fault.OtherRegister found = found ≡ other_register
Refuses fault.TooShort found = found ≡ too_short
Refuses (fault.Differs number) found = found ≡ differs number
Refuses (fault.BadLine number) found = found ≡ bad_line number
Refuses fault.OpenFailed found = ⊤
Refuses fault.NoMemory found = ⊤

-- the disk failed as the journal on it was to be cut
pub record WasNotCut {D : Type 0} (seen : D → List ℕ) (may_leave : D → List ℕ → Type 0)
    (faults : D → ℕ) (place : Place) (old new : D) : Type 0 where
  pub lines : SeenAhead
  pub text : List ℕ
  pub opened : IsOpened place (seen old) lines text
  pub failed : FailedToCut seen may_leave faults (length text) old new

-- ---- a new journal

-- THE TEXT OF A NEW JOURNAL: its first line alone
abbrev pub new_text : Place → List ℕ
new_text first = with_feed (first_text first)

-- a place can be written: its number has 64 bits, and its texts are UTF-8
pub record CanBegin (first : Place) : Type 0 where
  pub number : nat_lt first.number (2 ^ 64) ≡ true
  pub id : is_utf8 first.id ≡ true
  pub sum : is_utf8 first.sum ≡ true
  pub short : length (new_text first) ≤ 4096
