-- A REGISTER IS CHECKED AGAINST ITS JOURNAL: the lines are run again one by one over the register
-- that the journal began with, or over that of a copy; and where they come to the place of the
-- register, its tables are compared.
use Rattle.std.specs.Prelude.{◌≡◌, ◌⊎◌, ℕ, true, false, List, [], ◌∷◌, ◌++◌, length, ⊤}
use Rattle.std.specs.Prelude.{◌≢◌, None, Some}
use Rattle.serde_json.specs.Data.{Data}
use Rattle.clr_changes.specs.Deeds.{Deed, after_deed}
use Rattle.clr_journal.specs.Answered.{deed_reply}
use Rattle.clr_rules.specs.Register.{Register}
use Rattle.clr_rules.specs.declared.place.Place.{Place}
use Rattle.clr_load.specs.Tables.{tables_of}
use Rattle.clr_journal.specs.Journals.{deeds_of, next_place, withdraws}
use Rattle.clr_journal.specs.Line.{Entry, carried, withdrawn, is_accepted}
use Rattle.clr_journal.specs.declared.line.Receipt.{Receipt}
use Rattle.clr_journal.specs.declared.reading.Turn.{Turn}
use Rattle.clr_chain.specs.Chain.{read_on}
use Rattle.clr_chain.specs.First.{end_at}
use Rattle.clr_chain.specs.Level.{IsLevel, place_after}
use Rattle.clr_chain.specs.Link.{next_link}
use Rattle.clr_chain.specs.declared.chain_end.ChainEnd.{ChainEnd}
use Rattle.clr_verify.specs.Registers.{IsFirstDifference}
use Rattle.clr_verify.specs.Replies.{IsReply}
use Rattle.clr_checking.specs.Brief.{IsDeedTaken, is_brief_deed}
use Rattle.clr_checking.specs.declared.fault.CheckFault.{CheckFault}
use Rattle.clr_checking.specs.declared.fault.CheckFault.TheVariants.{BadLine, Differs, NoMemory}
use Rattle.clr_checking.specs.declared.fault.CheckFault.TheVariants.{OtherRegister}
use Rattle.clr_checking.specs.declared.fault.CheckFault.TheVariants.{Reply, Tables, TooShort}

-- ---- the lines

-- ALL LINES OF THESE TEXTS hold their sums, after this first line
pub record AreLines (first : Place) (texts : List (List ℕ)) (entries : List Entry) : Type 0 where
  pub read : (read_on (end_at first) texts).entries ≡ entries
  pub all : (read_on (end_at first) texts).left ≡ []

-- THE REPLIES OF ALL LINES are those of the register at their places: of those that were carried
-- out, and of those that were refused, but for one that may have been noted in brief. They lead
-- from one register to another
pub data AreAnswered : Register → List Entry → Register → Type 0 where
  none : (R : Register) → AreAnswered R [] R
  refused : (R S : Register) (receipt : Receipt) (deed : Deed) (reply : Data) (rest : List Entry)
      → is_accepted reply ≡ false → IsDeedTaken R deed reply
      → AreAnswered R rest S → AreAnswered R (carried receipt deed reply ∷ rest) S
  gone : (R S : Register) (receipt : Receipt) (deed : Deed) (reply : Data) (n : ℕ)
      (rest : List Entry) → is_accepted reply ≡ true → AreAnswered R rest S
      → AreAnswered R (carried receipt deed reply ∷ withdrawn n ∷ rest) S
  done : (R S : Register) (receipt : Receipt) (deed : Deed) (reply : Data) (rest : List Entry)
      → is_accepted reply ≡ true → withdraws rest ≡ false
      → IsReply reply (deed_reply R deed) → AreAnswered (after_deed R deed) rest S
      → AreAnswered R (carried receipt deed reply ∷ rest) S

-- ---- the yes

-- A REGISTER IS LEVEL WITH A JOURNAL, as far as tables show: the lines up to its place are those of
-- a run, from the register that the journal began with to one with the same tables
pub record IsLevelByTables (began : Register) (first : Place) (entries : List Entry)
    (place : Place) (R : Register) : Type 0 where
  pub register : Register
  pub level : IsLevel began first entries place register
  pub tables : tables_of R ≡ tables_of register

-- YES: all lines hold their sums, the register is level with them, and each reply is that of the
-- run. The count is of the deeds that were carried out
pub record IsChecked (began : Register) (first : Place) (texts : List (List ℕ)) (place : Place)
    (R : Register) (count : ℕ) : Type 0 where
  pub entries : List Entry
  pub lines : AreLines first texts entries
  pub level : IsLevelByTables began first entries place R
  pub left : Register
  pub answered : AreAnswered began entries left
  pub count_is : count ≡ length (deeds_of entries)

-- FROM A COPY: the lines up to its place hold their sums, and the place is there; the rest is
-- checked over the register of the copy. Of the lines before no reply is looked at
pub record IsCheckedFrom (copied : Register) (at : Place) (first : Place)
    (texts : List (List ℕ)) (place : Place) (R : Register) (count : ℕ) : Type 0 where
  pub before : List Entry
  pub entries : List Entry
  pub lines : AreLines first texts (before ++ entries)
  pub is_at : at ≡ place_after first before
  pub kept : withdraws entries ≡ false
  pub level : IsLevelByTables copied at entries place R
  pub left : Register
  pub answered : AreAnswered copied entries left
  pub count_is : count ≡ length (deeds_of entries)

-- ---- why not

-- A PLACE IS MET by the run of these lines: after the first of them, of which none is withdrawn
-- by the line after them, it leads to a register of which this holds
pub record Meets (began : Register) (first : Place) (entries : List Entry) (place : Place)
    (Is : Register → Type 0) : Type 0 where
  pub had : List Entry
  pub more : List Entry
  pub all : entries ≡ had ++ more
  pub is_at : place ≡ place_after first had
  pub kept : withdraws more ≡ false
  pub register : Register
  pub answered : AreAnswered began had register
  pub is : Is register

-- A DEED HAS ANOTHER REPLY: the lines before it lead to a register that answers it otherwise than
-- its line says. It was accepted and is not withdrawn; or it was refused, and its line is none that
-- may be in brief
pub record RepliesElse (began : Register) (entries : List Entry) (number : ℕ) : Type 0 where
  pub had : List Entry
  pub receipt : Receipt
  pub deed : Deed
  pub reply : Data
  pub more : List Entry
  pub all : entries ≡ had ++ carried receipt deed reply ∷ more
  pub number_is : number ≡ receipt.number
  pub kept : withdraws more ≡ false
  pub register : Register
  pub whole : is_accepted reply ≡ false → is_brief_deed register deed reply ≡ false
  pub answered : AreAnswered began had register
  pub other : reply ≢ deed_reply register deed

-- AT THE NUMBER OF A PLACE THE SUM IS ANOTHER: after the last line that has it
pub record HasOtherSum (first : Place) (entries : List Entry) (place : Place) (number : ℕ)
    : Type 0 where
  pub had : List Entry
  pub more : List Entry
  pub all : entries ≡ had ++ more
  pub kept : withdraws more ≡ false
  pub number_is : number ≡ place.number
  pub there : (place_after first had).number ≡ number
  pub other : place.sum ≢ (place_after first had).sum

-- THE DEED AFTER WHICH THE RUN BEGINS IS WITHDRAWN
pub record IsWithdrawn (entries : List Entry) (number : ℕ) : Type 0 where
  pub more : List Entry
  pub all : entries ≡ withdrawn number ∷ more

-- NO LINE HAS THIS NUMBER
abbrev pub NoneHas : ℕ → List Entry → Type 0
NoneHas number [] = ⊤
NoneHas number (carried receipt deed reply ∷ rest) =
    (receipt.number ≢ number) × NoneHas number rest
NoneHas number (withdrawn n ∷ rest) = (n ≢ number) × NoneHas number rest

-- A PLACE IS NOT THERE: no line has its number, nor has the first
abbrev pub IsNotThere : Place → List Entry → Place → Type 0
IsNotThere first entries place =
    (first.number ≢ place.number) × NoneHas place.number entries

-- WHY A RUN OF THESE LINES IS REFUSED for a register at this place
abbrev pub RefusesRun : Register → Place → List Entry → Place → Register → CheckFault → Type 0
RefusesRun began first entries place R OtherRegister = place.id ≢ first.id
RefusesRun began first entries place R (BadLine n) = ⊥
RefusesRun began first entries place R (Reply n) = RepliesElse began entries n
RefusesRun began first entries place R (Differs n) =
    HasOtherSum first entries place n ⊎ IsWithdrawn entries n
RefusesRun began first entries place R (Tables found) =
    Meets began first entries place (λ S. IsFirstDifference R S (Some found))
RefusesRun began first entries place R TooShort = ⊥
RefusesRun began first entries place R NoMemory = ⊤

-- why these lines do not come to the place of a copy
abbrev pub RefusesCopy : Place → List Entry → Place → Place → CheckFault → Type 0
RefusesCopy first entries at place OtherRegister = (at.id ≢ first.id) ⊎ (place.id ≢ first.id)
RefusesCopy first entries at place (BadLine n) = ⊥
RefusesCopy first entries at place (Reply n) = ⊥
RefusesCopy first entries at place (Differs n) = HasOtherSum first entries at n
RefusesCopy first entries at place (Tables found) = ⊥
RefusesCopy first entries at place TooShort = ⊥
RefusesCopy first entries at place NoMemory = ⊤

-- WHY THESE LINES ARE REFUSED from a copy: they do not come to its place; or the run of those after
-- it is refused
abbrev pub RefusesFrom : Register → Place → Place → List Entry → List Entry → Place → Register
    → CheckFault → Type 0
RefusesFrom copied at first before entries place R fault =
    RefusesCopy first (before ++ entries) at place fault
    ⊎ ((at ≡ place_after first before) × RefusesRun copied at entries place R fault)

-- WHY THERE IS NO YES OF THESE TEXTS: their run is refused, or the place is not there
pub record IsRefused (began : Register) (first : Place) (texts : List (List ℕ)) (place : Place)
    (R : Register) (fault : CheckFault) : Type 0 where
  pub entries : List Entry
  pub lines : AreLines first texts entries
  pub cause : RefusesRun began first entries place R fault
      ⊎ ((fault ≡ TooShort) × IsNotThere first entries place)

pub record IsRefusedFrom (copied : Register) (at first : Place) (texts : List (List ℕ))
    (place : Place) (R : Register) (fault : CheckFault) : Type 0 where
  pub before : List Entry
  pub entries : List Entry
  pub lines : AreLines first texts (before ++ entries)
  pub cause : RefusesFrom copied at first before entries place R fault
      ⊎ ((fault ≡ TooShort) × (IsNotThere first (before ++ entries) at
      ⊎ ((at ≡ place_after first before) × IsNotThere at entries place)))

-- a walk ends where these lines do; after the first line of a further part no deed is open
pub record EndsAt (walked read : ChainEnd) : Type 0 where
  pub number : walked.turn.last ≡ read.turn.last
  pub sum : walked.sum ≡ read.sum
  pub closed : walked.turn.is_open ≡ true → read.turn.is_open ≡ true

-- ALL LINES OF THESE TEXTS hold their sums, and this one after them, which has this number, does
-- not
pub record IsBadAfter (first : Place) (texts : List (List ℕ)) (text : List ℕ) (n : ℕ)
    : Type 0 where
  pub entries : List Entry
  pub lines : AreLines first texts entries
  pub end : ChainEnd
  pub end_is : EndsAt end (read_on (end_at first) texts).end
  pub bad : next_link end text ≡ None
  pub number : n ≡ next_place end.turn.last

-- no line more withdraws the deed of this number: it is not the last, or it is not open
abbrev pub IsSettled : Turn → ℕ → Type 0
IsSettled turn number = turn.last ≡ number → turn.is_open ≡ false

-- the same, at the end of these texts
abbrev pub IsSettledBy : Place → List (List ℕ) → ℕ → Type 0
IsSettledBy first texts number = IsSettled (read_on (end_at first) texts).end.turn number

-- WHY A LINE IS REFUSED, after these: it does not hold its sum; or with it there is no yes, and
-- where the sum of a place is another, no line more withdraws the deed there
abbrev pub RefusesLine : Place → List (List ℕ) → List ℕ → (CheckFault → Type 0) → CheckFault
    → Type 0
RefusesLine first texts text Is (BadLine n) = IsBadAfter first texts text n
RefusesLine first texts text Is OtherRegister = Is OtherRegister
RefusesLine first texts text Is (Reply n) = Is (Reply n)
RefusesLine first texts text Is (Differs n) =
    Is (Differs n) × IsSettledBy first (texts ++ text ∷ []) n
RefusesLine first texts text Is (Tables found) = Is (Tables found)
RefusesLine first texts text Is TooShort = ⊥
RefusesLine first texts text Is NoMemory = ⊤

abbrev pub Refuses : Register → Place → List (List ℕ) → List ℕ → Place → Register → CheckFault
    → Type 0
Refuses began first texts text place R =
    RefusesLine first texts text (IsRefused began first (texts ++ text ∷ []) place R)

abbrev pub RefusesOfCopy : Register → Place → Place → List (List ℕ) → List ℕ → Place → Register
    → CheckFault → Type 0
RefusesOfCopy copied at first texts text place R =
    RefusesLine first texts text (IsRefusedFrom copied at first (texts ++ text ∷ []) place R)
