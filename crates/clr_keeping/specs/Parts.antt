-- THE PARTS OF A JOURNAL at their paths: the first has the first line, and each further one goes on
-- where the one before it ends.
use Rattle.std.specs.Prelude.{◌≡◌, ◌⊎◌, ℕ, Bool, false, true, List, [], ◌∷◌, ◌++◌, None, Option}
use Rattle.std.specs.Prelude.{IfSome, Some, Vec, option_and_then}
use Rattle.std.specs.declared.alloc.Global.{Global}
use Rattle.clr_stream.specs.Failures.{Rose}
use Rattle.clr_journal.specs.Lines.{ended_lines}
use Rattle.clr_rules.specs.declared.place.Place.{Place}
use Rattle.clr_chain.specs.Finding.{first_text_of}
use Rattle.clr_chain.specs.First.{end_at, other_rules_in, read_first}
use Rattle.clr_chain.specs.Walking.{Step, bad, part_of, step_of}
use Rattle.clr_chain.specs.declared.chain_end.ChainEnd.{ChainEnd}
use Rattle.clr_chain.specs.declared.walk.Walk.{Walk}
use Rattle.clr_journal.specs.Journals.{next_place}
use Rattle.clr_edge.specs.Lines.{EndsAs, IsNextLine, ends_whole, left_of}
use Rattle.clr_edge.specs.declared.fault.Fault.{Fault}
use Rattle.clr_edge.specs.declared.fault.Fault.TheVariants.{Journal, Memory}
use Rattle.clr_edge.specs.declared.fault.JournalFault.TheVariants.{BadLine, OpenFailed, ReadFailed}
use Rattle.clr_edge.specs.declared.fault.JournalFault.TheVariants.{OtherRules, TooLong}
use Rattle.clr_edge.specs.Paths.{FailsToRead}
use Rattle.clr_keeping.specs.declared.parts.Part.{Part}

-- the faults of a part
abbrev pub IsOfPart : Fault → Type 0
IsOfPart fault = (fault ≡ Memory) ⊎ (fault ≡ Journal OpenFailed) ⊎ (fault ≡ Journal ReadFailed)
    ⊎ (fault ≡ Journal TooLong) ⊎ ((number : ℕ) × (fault ≡ Journal (BadLine number)))
    ⊎ ((number : ℕ) × (fault ≡ Journal (OtherRules number)))

-- those of reading a line of it
abbrev pub IsOfReading : Fault → Type 0
IsOfReading fault = (fault ≡ Memory) ⊎ (fault ≡ Journal ReadFailed) ⊎ (fault ≡ Journal TooLong)

-- those of a line that may be a first line by other rules: it names the rules of this number
abbrev pub IsOfRules : List ℕ → Fault → Type 0
IsOfRules text fault = (fault ≡ Memory)
    ⊎ ((number : ℕ) × (fault ≡ Journal (OtherRules number))
    × (other_rules_in text ≡ Some number))

-- those of a part that was not opened or read
abbrev pub IsUnreadPart : Fault → Type 0
IsUnreadPart fault = (fault ≡ Journal OpenFailed) ⊎ IsOfReading fault

-- of these, that it was not opened or read has a cause
abbrev pub FailsPart : {F : Type 0} → (F → Option (List ℕ)) → (F → ℕ) → Option (List ℕ) → Fault
    → Type 0
FailsPart remaining failures bytes fault =
    (fault ≡ Journal OpenFailed) ⊎ (fault ≡ Journal ReadFailed)
    → FailsToRead remaining failures bytes

-- what was opened had these bytes then, and this count of failures: one that is counted more is of it
abbrev pub IsOpened : {F : Type 0} → (F → Option (List ℕ)) → (F → ℕ) → Option (List ℕ) → ℕ
    → Type 0
IsOpened {F} remaining failures bytes count = (before : F) × (remaining before ≡ bytes)
    × (failures before ≡ count)

-- that it was not opened or read is a failure that is counted more
abbrev pub FailsLater : {F : Type 0} → (F → ℕ) → F → Fault → Type 0
FailsLater {F} failures source fault =
    (fault ≡ Journal OpenFailed) ⊎ (fault ≡ Journal ReadFailed)
    → (after : F) × Rose (failures source) (failures after)

-- what is left of a part, where it is known
abbrev pub left_in : {S : Type 0} → (S → Option (List ℕ)) → Part S → Option (List ℕ)
left_in remaining part = left_of part.lines (remaining part.source)

-- the next line of what was left, which ends as it did
abbrev pub ReadsLine : Option (Vec ℕ Global) → Option (List ℕ) → List ℕ → Type 0
ReadsLine line after bytes = IsNextLine line after bytes × EndsAs after bytes

-- THE FIRST LINE of these bytes is a place, and the lines after it are left
abbrev pub FirstIs : Place → Option (List ℕ) → List ℕ → Type 0
FirstIs first None bytes = ⊥
FirstIs first (Some after) bytes = (text : List ℕ) × (ended_lines bytes ≡ text ∷ ended_lines after)
    × (read_first text ≡ Some first) × (ends_whole bytes ≡ ends_whole after)

-- THESE BYTES GO ON where a walk has come to, and the lines after their first are left
abbrev pub GoesOn : Walk → Walk → Option (List ℕ) → List ℕ → Type 0
GoesOn old new None bytes = ⊥
GoesOn old new (Some after) bytes = (text : List ℕ)
    × (ended_lines bytes ≡ text ∷ ended_lines after)
    × ((true, new.end) ≡ part_of old.id old.end (read_first text)) × (new.id ≡ old.id)
    × (ends_whole bytes ≡ ends_whole after)

-- ---- a part that is refused by its first line

-- what the first line of these bytes is by these rules, and which others it names
abbrev pub first_in : List ℕ → Option Place
first_in bytes = option_and_then read_first (first_text_of (ended_lines bytes))

abbrev pub rules_in : List ℕ → Option ℕ
rules_in bytes = option_and_then other_rules_in (first_text_of (ended_lines bytes))

-- THESE BYTES ARE NO PART: their first line names other rules, or they have no line
abbrev pub IsNoPart : List ℕ → Fault → Type 0
IsNoPart bytes fault =
    ((number : ℕ) × (fault ≡ Journal (OtherRules number)) × (rules_in bytes ≡ Some number))
    ⊎ ((fault ≡ Journal (BadLine 0)) × (ended_lines bytes ≡ []))

-- THEY ARE NO FIRST PART: that, or their first line is no first line of a journal
abbrev pub IsNoFirst : List ℕ → Fault → Type 0
IsNoFirst bytes fault = IsNoPart bytes fault
    ⊎ ((fault ≡ Journal (BadLine 0)) × (rules_in bytes ≡ None) × (first_in bytes ≡ None))

-- THEY ARE NO PART AFTER THIS END of a chain: or their first line does not go on from it
abbrev pub IsNoNext : List ℕ → ChainEnd → List ℕ → Fault → Type 0
IsNoNext id end bytes fault = IsNoPart bytes fault
    ⊎ ((fault ≡ Journal (BadLine end.turn.last)) × (rules_in bytes ≡ None)
    × ((part_of id end (first_in bytes)).0 ≡ false))

-- a part was not opened or read; or it is refused, where its bytes are known
abbrev pub IsUnreadOr : (List ℕ → Fault → Type 0) → Option (List ℕ) → Fault → Type 0
IsUnreadOr IsNo bytes fault = IsUnreadPart fault ⊎ IfSome bytes (λ all. IsNo all fault)

-- ---- all parts, where their bytes are known

-- the steps of lines from an end of a chain, and the end after them
unfoldable pub walked : ChainEnd → List (List ℕ) → List Step × ChainEnd
walked end [] = ([], end)
walked end (text ∷ rest) = (
  (step_of end text).0 ∷ (walked (step_of end text).1 rest).0,
  (walked (step_of end text).1 rest).1,
)

-- half a line at the end of a part: a bad line, with the next number. The chain stays where it was
abbrev pub half_step : ChainEnd → Bool → List Step
half_step end true = []
half_step end false = bad (next_place end.turn.last) ∷ []

-- THE STEPS OF A PART from an end of a chain, by its lines and whether it ends whole
abbrev pub part_steps : ChainEnd → List (List ℕ) → Bool → List Step
part_steps end texts is_whole = (walked end texts).0 ++ half_step (walked end texts).1 is_whole

-- it begins with these steps, as far as it was read
abbrev pub BeginsPart : ChainEnd → List (List ℕ) → Bool → List Step → Type 0
BeginsPart end texts is_whole steps =
    (rest : List Step) × (part_steps end texts is_whole ≡ steps ++ rest)

-- the further parts have these steps
unfoldable pub GoOnBy : List ℕ → ChainEnd → List (List ℕ) → List Step → Type 0
GoOnBy id end [] steps = steps ≡ []
GoOnBy id end (bytes ∷ rest) steps = (text : List ℕ) × (texts : List (List ℕ))
    × (next : ChainEnd) × (more : List Step)
    × (ended_lines bytes ≡ text ∷ texts) × (part_of id end (read_first text) ≡ (true, next))
    × (steps ≡ part_steps next texts (ends_whole bytes) ++ more)
    × GoOnBy id (walked next texts).1 rest more

-- they begin with these steps, as far as they were read
unfoldable pub BeginBy : List ℕ → ChainEnd → List (List ℕ) → List Step → Type 0
BeginBy id end [] steps = steps ≡ []
BeginBy id end (bytes ∷ rest) steps = (steps ≡ []) ⊎ ((text : List ℕ)
    × (texts : List (List ℕ)) × (next : ChainEnd)
    × (ended_lines bytes ≡ text ∷ texts) × (part_of id end (read_first text) ≡ (true, next))
    × (BeginsPart next texts (ends_whole bytes) steps ⊎ ((more : List Step)
    × (steps ≡ part_steps next texts (ends_whole bytes) ++ more)
    × BeginBy id (walked next texts).1 rest more)))

-- THE STEPS OF A JOURNAL in parts
pub record HasSteps (first_part : List ℕ) (parts : List (List ℕ)) (steps : List Step) : Type 0 where
  pub first : Place
  pub text : List ℕ
  pub texts : List (List ℕ)
  pub lines : ended_lines first_part ≡ text ∷ texts
  pub read : read_first text ≡ Some first
  pub more : List Step
  pub steps_are : steps ≡ part_steps (end_at first) texts (ends_whole first_part) ++ more
  pub go_on : GoOnBy first.id (walked (end_at first) texts).1 parts more

-- A JOURNAL IN PARTS BEGINS WITH THESE STEPS, as far as it was read
pub record HasFront (first_part : List ℕ) (parts : List (List ℕ)) (steps : List Step) : Type 0 where
  pub first : Place
  pub text : List ℕ
  pub texts : List (List ℕ)
  pub lines : ended_lines first_part ≡ text ∷ texts
  pub read : read_first text ≡ Some first
  pub some : BeginsPart (end_at first) texts (ends_whole first_part) steps ⊎ ((more : List Step)
      × (steps ≡ part_steps (end_at first) texts (ends_whole first_part) ++ more)
      × BeginBy first.id (walked (end_at first) texts).1 parts more)

-- ---- a part that does not go on

-- ONE OF THE FURTHER PARTS IS REFUSED, and those before it go on
unfoldable pub BreaksAfter : List ℕ → ChainEnd → List (List ℕ) → Fault → Type 0
BreaksAfter id end [] fault = ⊥
BreaksAfter id end (bytes ∷ rest) fault = IsNoNext id end bytes fault
    ⊎ ((text : List ℕ) × (texts : List (List ℕ)) × (next : ChainEnd)
    × (ended_lines bytes ≡ text ∷ texts) × (part_of id end (read_first text) ≡ (true, next))
    × BreaksAfter id (walked next texts).1 rest fault)

-- A PART OF A JOURNAL IS REFUSED: the first, or one of the further ones
abbrev pub Breaks : List ℕ → List (List ℕ) → Fault → Type 0
Breaks first_part parts fault = IsNoFirst first_part fault
    ⊎ ((first : Place) × (text : List ℕ) × (texts : List (List ℕ))
    × (ended_lines first_part ≡ text ∷ texts) × (read_first text ≡ Some first)
    × BreaksAfter first.id (walked (end_at first) texts).1 parts fault)
