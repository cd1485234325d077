-- HOW FAR A REGISTER WAS CHECKED against its journal.
use Rattle.std.specs.Prelude.{◌≡◌, ◌≢◌, ◌⊎◌, ℕ, Bool, true, false, List, [], ◌∷◌, ◌++◌, IfSome}
use Rattle.std.specs.Prelude.{◌+◌, IsSome, None, Option, Some, length, ⊤}
use Rattle.serde_json.specs.View.{view}
use Rattle.clr_changes.specs.Deeds.{deed_of}
use Rattle.clr_journal.specs.Answered.{deed_reply}
use Rattle.clr_rules.specs.Good.{IsGood}
use Rattle.clr_rules.specs.Register.{Register}
use Rattle.clr_rules.specs.declared.place.Place.{Place}
use Rattle.clr_load.specs.Tables.{tables_of}
use Rattle.clr_journal.specs.Journals.{deeds_of, withdraws}
use Rattle.clr_journal.specs.Laws.{turn_behind}
use Rattle.clr_journal.specs.Line.{Entry, carried, withdrawn}
use Rattle.clr_journal.specs.declared.line.Carried.{Carried}
use Rattle.clr_journal.specs.declared.reading.Turn.{Turn}
use Rattle.clr_chain.specs.Chain.{read_on}
use Rattle.clr_chain.specs.First.{end_at, first_turn_at}
use Rattle.clr_chain.specs.Level.{place_after}
use Rattle.clr_chain.specs.Sums.{sum_behind}
use Rattle.clr_checking.specs.Checking.{AreAnswered, AreLines, EndsAt, IsNotThere, IsSettled, Meets}
use Rattle.clr_checking.specs.Checking.{NoneHas}
use Rattle.clr_verify.specs.Registers.{IsFirstDifference}
use Rattle.clr_verify.specs.Replay.{IsAccepted, open_entries}
use Rattle.clr_checking.specs.declared.fault.CheckFault.{CheckFault}
use Rattle.clr_checking.specs.declared.fault.CheckFault.TheVariants.{BadLine, Differs, NoMemory}
use Rattle.clr_checking.specs.declared.fault.CheckFault.TheVariants.{OtherRegister}
use Rattle.clr_checking.specs.declared.fault.CheckFault.TheVariants.{Reply, Tables, TooShort}
use Rattle.clr_checking.specs.declared.checking.Checking.{Checking}

-- it can take a line: its register is good, and the last deed was accepted
pub record IsReady (it : Checking) : Type 0 where
  pub good : IsGood it.desk.book.register
  pub accepted : IfSome it.last IsAccepted

-- what is checked: a register with this place
pub record IsOf (place : Place) (R : Register) (it : Checking) : Type 0 where
  pub place_is : it.place ≡ place
  pub book_is : it.book.now.register ≡ R

-- ---- the lines that were run

-- THE REGISTER'S PLACE WAS MET: there the run has the tables of the register
abbrev pub IsMet : Register → Place → List Entry → Place → Register → Type 0
IsMet began first entries place R =
    Meets began first entries place (λ S. tables_of R ≡ tables_of S)

-- THE LINES HAVE COME TO THE NUMBER OF A PLACE, and its sum is another
pub record IsMissed (first : Place) (entries : List Entry) (place : Place) (number : ℕ)
    : Type 0 where
  pub number_is : number ≡ place.number
  pub there : (place_after first entries).number ≡ number
  pub other : place.sum ≢ (place_after first entries).sum

-- at the number of the register's place the open deed is that of the place, unless the sum there
-- is another
abbrev pub IsOpenAt : Place → Place → List Entry → Option Carried → Option ℕ → Type 0
IsOpenAt first place entries last (Some number) = IsMissed first entries place number
IsOpenAt first place entries None None = ⊤
IsOpenAt first place entries (Some one) None =
    one.receipt.number ≡ place.number → place ≡ place_after first entries

-- THESE LINES WERE RUN, all but the open deed, and each had the reply that is due. They lead to
-- a register; the count is of those that were carried out
pub record Ran (began : Register) (first place : Place) (R : Register) (last : Option Carried)
    (missed : Option ℕ) (S : Register) (count : ℕ) (is_met : Bool) (entries : List Entry)
    : Type 0 where
  pub done : List Entry
  pub entries_are : entries ≡ done ++ open_entries last
  pub answered : AreAnswered began done S
  pub count_is : count ≡ length (deeds_of done)
  pub open_at : IsOpenAt first place entries last missed
  pub met : is_met ≡ true → IsMet began first entries place R
  pub unmet : is_met ≡ false → NoneHas place.number done

-- the same, over the register that they began with
pub record RanOver (began : Register) (first place : Place) (R : Register) (it : Checking)
    (entries : List Entry) : Type 0 where
  pub of : IsOf place R it
  pub ran : Ran began first place R it.last it.missed it.desk.book.register it.count it.is_met
      entries

-- between two lines: no deed is open where the last line has none that was accepted; and where
-- the place is not met, it is not that which the run began after, unless the next line may withdraw
-- the deed there
pub record RunsOn (began : Register) (first place : Place) (R : Register) (it : Checking)
    (entries : List Entry) : Type 0 where
  pub over : RanOver began first place R it entries
  pub shut : it.last ≡ None → (turn_behind (first_turn_at first) entries).is_open ≡ false
  pub later : it.is_met ≡ false
      → (first.number ≢ place.number) ⊎ ((entries ≡ []) × IsSome it.missed)

-- ---- the lines before the place of a copy

-- the place of a copy is still to be met after these lines, and nothing was run over its register
pub record Waits (copied : Register) (at first place : Place) (R : Register) (it : Checking)
    (before : List Entry) : Type 0 where
  pub of : IsOf place R it
  pub same_id : at.id ≡ first.id
  pub from : it.from ≡ Some at
  pub last : it.last ≡ None
  pub register : it.desk.book.register ≡ copied
  pub count : it.count ≡ 0
  pub met : it.is_met ≡ false
  pub missed : IfSome it.missed (IsMissed first before at)

-- it was met after these lines, and the lines after it were run
pub record RunsFrom (copied : Register) (at first place : Place) (R : Register) (it : Checking)
    (before entries : List Entry) : Type 0 where
  pub begun : it.from ≡ None
  pub is_at : at ≡ place_after first before
  pub kept : withdraws entries ≡ false
  pub ran : RunsOn copied at place R it entries

-- one or the other
abbrev pub ComesFrom : Register → Place → Place → Place → Register → Checking → List Entry
    → List Entry → Type 0
ComesFrom copied at first place R it before entries =
    ((entries ≡ []) × Waits copied at first place R it before)
    ⊎ RunsFrom copied at first place R it before entries

-- ---- the chain

-- where the chain has come to
pub record GoesOver (first place : Place) (it : Checking) (texts : List (List ℕ))
    (entries : List Entry) : Type 0 where
  pub same_id : place.id ≡ first.id
  pub lines : AreLines first texts entries
  pub end_is : EndsAt it.walk.end (read_on (end_at first) texts).end
  pub id_is : it.walk.id ≡ first.id

-- CHECKED SO FAR, from the register that the journal began with
pub record CheckedTo (began : Register) (first place : Place) (R : Register) (it : Checking)
    (texts : List (List ℕ)) : Type 0 where
  pub entries : List Entry
  pub over : GoesOver first place it texts entries
  pub begun : it.from ≡ None
  pub ran : RunsOn began first place R it entries

-- FROM A COPY: its place was not met yet, and nothing was run; or it was, and the lines after it
-- were run
pub record CheckedToFrom (copied : Register) (at first place : Place) (R : Register)
    (it : Checking) (texts : List (List ℕ)) : Type 0 where
  pub before : List Entry
  pub entries : List Entry
  pub over : GoesOver first place it texts (before ++ entries)
  pub come : ComesFrom copied at first place R it before entries
  pub sought : it.from ≡ Some at → it.missed ≡ None → IsNotThere first before at

-- ---- a line more

-- a deed has the number after this one; a line that withdraws does so with the deed of it
abbrev pub IsOfLast : Entry → ℕ → Type 0
IsOfLast (carried receipt deed reply) number = receipt.number ≡ number + 1
IsOfLast (withdrawn n) number = n ≡ number

-- the lines before it, if there are any, leave its deed open
abbrev pub IsOfOpen : Entry → Place → List Entry → Type 0
IsOfOpen (carried receipt deed reply) first entries = ⊤
IsOfOpen (withdrawn n) first [] = ⊤
IsOfOpen (withdrawn n) first (entry ∷ entries) =
    (turn_behind (first_turn_at first) (entry ∷ entries)).is_open ≡ true

-- a line comes after these, and the chain has come to it
pub record IsAfter (first place : Place) (sum : List ℕ) (entry : Entry) (entries : List Entry)
    : Type 0 where
  pub last : IsOfLast entry (place_after first entries).number
  pub opens : IsOfOpen entry first entries
  pub sum_is : sum ≡ sum_behind first.sum (entries ++ entry ∷ [])
  pub same_id : place.id ≡ first.id

-- the chain has come to this number, after these lines
pub record IsAt (first place : Place) (number : ℕ) (sum : List ℕ) (entries : List Entry)
    : Type 0 where
  pub here : place_after first entries ≡ record { id = first.id; number = number; sum = sum }
  pub same_id : place.id ≡ first.id

-- ---- why not

-- A REGISTER ANSWERS A DEED OTHERWISE than its line says
abbrev pub AnswersElse : Register → Carried → CheckFault → Type 0
AnswersElse R one OtherRegister = ⊥
AnswersElse R one (BadLine n) = ⊥
AnswersElse R one (Reply n) = (n ≡ one.receipt.number)
    × (view one.reply ≢ deed_reply R (deed_of one.deed))
AnswersElse R one (Differs n) = ⊥
AnswersElse R one (Tables found) = ⊥
AnswersElse R one TooShort = ⊥
AnswersElse R one NoMemory = ⊤

-- a fault of the run, and not of a line that does not hold its sum
abbrev pub IsOfRun : CheckFault → Type 0
IsOfRun OtherRegister = ⊤
IsOfRun (BadLine n) = ⊥
IsOfRun (Reply n) = ⊤
IsOfRun (Differs n) = ⊤
IsOfRun (Tables found) = ⊤
IsOfRun TooShort = ⊤
IsOfRun NoMemory = ⊤

-- where the sum of a place is another after a line, no line more withdraws the deed there
abbrev pub Settles : Turn → CheckFault → Type 0
Settles turn OtherRegister = ⊤
Settles turn (BadLine n) = ⊤
Settles turn (Reply n) = ⊤
Settles turn (Differs n) = IsSettled turn n
Settles turn (Tables found) = ⊤
Settles turn TooShort = ⊤
Settles turn NoMemory = ⊤

-- the tables differ at this number, which is that of the register's place
abbrev pub ComparesElse : Checking → ℕ → CheckFault → Type 0
ComparesElse it number OtherRegister = ⊥
ComparesElse it number (BadLine n) = ⊥
ComparesElse it number (Reply n) = ⊥
ComparesElse it number (Differs n) = ⊥
ComparesElse it number (Tables found) = (number ≡ it.place.number) × (it.from ≡ None)
    × IsFirstDifference it.book.now.register it.desk.book.register (Some found)
ComparesElse it number TooShort = ⊥
ComparesElse it number NoMemory = ⊤
