-- REGISTER AND JOURNAL ARE OPENED AGAIN, after a crash or after both were let go.
use Rattle.std.specs.Prelude.{◌≡◌, ◌⊎◌, ℕ, Bool, true, List, [], ◌∷◌, ◌++◌, drop, length, Some}
use Rattle.std.specs.List.{list_any}
use Rattle.sqlite.specs.State.{State}
use Rattle.clr_journal.specs.Journal.{BeginsWith}
use Rattle.clr_journal.specs.Lines.{ended_lines}
use Rattle.clr_rules.specs.Good.{IsGood}
use Rattle.clr_rules.specs.Register.{Register}
use Rattle.clr_changes.specs.Deeds.{after_deed}
use Rattle.clr_rules.specs.declared.place.Place.{Place}
use Rattle.clr_journal.specs.Journals.{carried_out, in_turn}
use Rattle.clr_journal.specs.Line.{Entry, withdrawn}
use Rattle.clr_chain.specs.Chain.{ReadOn, chain_text}
use Rattle.clr_chain.specs.Finding.{Found, ahead, bad_line, differs, found_in, says_accepted}
use Rattle.clr_chain.specs.Finding.{sought, unmet}
use Rattle.clr_chain.specs.First.{first_turn_at}
use Rattle.clr_chain.specs.Level.{IsLevel, IsRunOf, place_after}
use Rattle.clr_chain.specs.Link.{link_text, read_link}
use Rattle.clr_chain.specs.Opening.{CanBegin}
use Rattle.clr_chain.specs.Sums.{sum_after}
use Rattle.clr_desk.specs.Given.{AreGiven, Given}
use Rattle.clr_desk.specs.Placing.{Placing}
use Rattle.clr_desk.specs.Taking.{Taking}
use Rattle.clr_level.specs.Journaling.{IsDurable, IsSafe, Journals}
use Rattle.clr_level.specs.Levelling.{IsDue, IsKeptLevel}
use Rattle.clr_level.specs.Placing.{IsAt}
use Rattle.clr_level.specs.declared.keeper.Keeper.{Keeper}

-- A REGISTER HAS THESE LINES: they are in turn, and it is that of a run of the deeds that they
-- say were carried out, from the one that the journal began with
pub record HasLines (first : Register) (start : Place) (had : List Entry) (R : Register)
    : Type 0 where
  pub turns : in_turn (first_turn_at start) had ≡ true
  pub run : IsRunOf first (carried_out had) R

-- ---- what a crash leaves

-- THE LINES THAT A REGISTER HAS ARE SAFE: the keeper below is at the place after them, and whatever
-- a crash leaves of the journal begins with them
pub record IsSafeAt {K J C : Type 0} (kept : K → State) (has_place : Placing) (text : J → List ℕ)
    (may_leave : J → List ℕ → Type 0) (first : Register) (start : Place) (R : Register)
    (it : Keeper K J C) : Type 0 where
  pub had : List Entry
  pub has : HasLines first start had R
  pub placed : IsAt has_place (kept it.keeper) (place_after start had)
  pub safe : IsSafe text may_leave (chain_text start had) it.journal

-- THEY STAY SAFE over any number of commands and faults: with each command that is carried out, its
-- line is
abbrev pub SafeIsKept : (K J C : Type 0) → Taking K → (K → State) → Placing → (C → ℕ → Type 0)
    → (J → List ℕ) → (J → List ℕ) → (J → List ℕ → Type 0) → (J → Bool) → Type 0
SafeIsKept K J C takes kept has_place shows text found may_leave is_usable =
    (first R S : Register) (start : Place) (old new : Keeper K J C) (given : List Given)
    → IsGood first → IsKeptLevel kept has_place text first start R old
    → IsSafeAt kept has_place text may_leave first start R old
    → AreGiven (Journals takes kept has_place shows text found may_leave is_usable)
    R old given S new
    → IsSafeAt kept has_place text may_leave first start S new

-- SO ARE THE LINES WITH THAT OF A DEED THAT IS DUE, at the end of the journal, where its line is
-- durable: it is wherever the keeper below was called, which may have kept its change
abbrev pub DueIsSafe : (K J C : Type 0) → (K → State) → Placing → (J → List ℕ)
    → (J → List ℕ → Type 0) → Type 0
DueIsSafe K J C kept has_place text may_leave = (first R : Register) (start : Place)
    (it : Keeper K J C) (level : IsKeptLevel kept has_place text first start R it)
    (due : IsDue R (IsLevel.more (IsKeptLevel.level level)))
    → IsDurable text may_leave it.journal
    → HasLines first start (IsKeptLevel.entries level) (after_deed R (IsDue.deed due))
    × (it.at ≡ place_after start (IsKeptLevel.entries level))
    × IsSafe text may_leave (chain_text start (IsKeptLevel.entries level)) it.journal

-- ---- how that is opened

-- what bytes have after these lines
abbrev pub rest_after : Place → List Entry → List ℕ → List ℕ
rest_after start had bytes = drop (length (chain_text start had)) bytes

-- THE LINE OF A PLACE CAN BE READ: the last of these lines is read from its text, as any that can be
-- written is (LinksReadBack); or there is none but the first
pub data IsReadAt (place : Place) (had : List Entry) : Type 0 where
  at_first : had ≡ [] → IsReadAt place had
  at_last : (before : List Entry) (entry : Entry) → had ≡ before ++ entry ∷ []
      → read_link place.sum (link_text entry place.sum) ≡ Some entry → IsReadAt place had

-- A JOURNAL OF THESE BYTES IS OPENED at a place, level with a register there: the lines after the
-- place are those that are found. What is cut off was never synced
pub record OpensLevel (first : Register) (start : Place) (bytes : List ℕ) (place : Place)
    (S : Register) : Type 0 where
  pub entries : List Entry
  pub level : IsLevel first start entries place S
  pub cut : List ℕ
  pub bytes_are : bytes ≡ chain_text start entries ++ cut
  pub read : ReadOn
  pub more : IsLevel.more level ≡ read.entries
  pub left : read.left ≡ ended_lines cut
  pub found : found_in place bytes ≡ ahead read

-- IT IS REFUSED: after the lines up to the place one is bad, and one says that a deed was
-- accepted; or the first withdraws the register's own deed
pub data IsRefused (place : Place) (rest : List ℕ) (found : Found) : Type 0 where
  not_cut : (number : ℕ) → found ≡ bad_line number
      → list_any says_accepted (ended_lines rest) ≡ true → IsRefused place rest found
  withdraws_own : (number : ℕ) (later : List (List ℕ)) → found ≡ differs place.number
      → ended_lines rest
      ≡ link_text (withdrawn number) (sum_after place.sum (withdrawn number)) ∷ later
      → IsRefused place rest found

-- RESTARTS KEEP LEVEL: where what is left of a journal begins with the lines that a register has,
-- and none after them has the number of its place or a lower one, it is opened at that place, level
-- with the register; or it is refused
abbrev pub RestartsKeepLevel : Type 0
RestartsKeepLevel = (first S : Register) (start : Place) (had : List Entry) (bytes : List ℕ)
    → HasLines first start had S → CanBegin start → IsReadAt (place_after start had) had
    → BeginsWith (chain_text start had) bytes
    → sought (place_after start had) (ended_lines (rest_after start had bytes)) ≡ unmet
    → OpensLevel first start bytes (place_after start had) S
    ⊎ IsRefused (place_after start had) (rest_after start had bytes)
    (found_in (place_after start had) bytes)
