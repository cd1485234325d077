-- WHAT `verify` ANSWERS: whether the register of a database is level with a journal, over the register
-- of the files that the journal began with, or over that of a copy.
use Rattle.std.specs.Prelude.{◌≡◌, ◌≢◌, ◌⊎◌, ℕ, false, true, List, [], ◌∷◌, ◌++◌, None, Option, Some}
use Rattle.std.specs.Prelude.{Result, Ok, Err}
use Rattle.std.specs.Prelude.{IfErr, IfSome, IsSomeAnd, OnErr, String, codes, decimal, map}
use Rattle.std.specs.Prelude.{slice_get, string_bytes, ⊤}
use Rattle.std.specs.Borrow.{Bor}
use Rattle.std.specs.declared.alloc.Global.{Global}
use Rattle.sqlite.specs.Held.{Held, state}
use Rattle.sqlite_trees.specs.declared.store.Store.{Ghosts}
use Rattle.clr_journal.specs.Lines.{ended_lines}
use Rattle.clr_book.specs.Book.{Shelved}
use Rattle.clr_rules.specs.Register.{Register}
use Rattle.clr_rules.specs.declared.place.Place.{Place}
use Rattle.clr_journal.specs.Journals.{next_place}
use Rattle.clr_journal.specs.Line.{Entry}
use Rattle.clr_chain.specs.Chain.{read_on}
use Rattle.clr_chain.specs.First.{end_at, read_first}
use Rattle.clr_chain.specs.Sums.{Files, first_sum}
use Rattle.clr_chain.specs.Walking.{bad, part_of, step_of}
use Rattle.clr_chain.specs.declared.chain_end.ChainEnd.{ChainEnd}
use Rattle.clr_args.specs.declared.asked.VerifyArgs.{VerifyArgs}
use Rattle.clr_args.specs.declared.asked.VerifyFromArgs.{VerifyFromArgs}
use Rattle.clr_edge.specs.Answers.{After}
use Rattle.clr_edge.specs.Lines.{ends_whole}
use Rattle.clr_keeping.specs.Keeping.{IsNotRead, IsReadFrom}
use Rattle.clr_keeping.specs.TakenUp.{HasPlace, IsUnplaced, IsUnsuited, LacksPlace, StaysRead}
use Rattle.clr_edge.specs.Visit.{Closed}
use Rattle.clr_edge.specs.declared.fault.Fault.{Fault}
use Rattle.clr_edge.specs.declared.fault.Fault.TheVariants.{Journal, Memory, Verify}
use Rattle.clr_edge.specs.declared.fault.JournalFault.TheVariants as why
use Rattle.clr_edge.specs.declared.fault.VerifyFault.TheVariants.{Differs, Files as OtherFiles}
use Rattle.clr_edge.specs.declared.fault.VerifyFault.TheVariants.{Reply}
use Rattle.clr_checking.specs.Checking.{AreLines, IsBadAfter, IsChecked, IsCheckedFrom}
use Rattle.clr_checking.specs.Checking.{IsRefused, IsRefusedFrom}
use Rattle.clr_checking.specs.CheckingOn.{CheckedTo, CheckedToFrom}
use Rattle.clr_checking.specs.declared.checking.Checking.{Checking}
use Rattle.clr_checking.specs.declared.fault.CheckFault.{CheckFault}
use Rattle.clr_checking.specs.declared.fault.CheckFault.TheVariants as check
use Rattle.clr_commands.specs.First.{files_of}
use Rattle.clr_commands.specs.Import.{AnswersFiles, AreKnown, Contents, FileRows, rows_of}
use Rattle.clr_keeping.specs.Journal.{FailsAny, all_known}
use Rattle.clr_keeping.specs.Parts.{Breaks, BreaksAfter, FailsLater, IsOfPart, IsOfReading}
use Rattle.clr_keeping.specs.Parts.{IsUnreadPart, walked}
use Rattle.clr_edge.specs.Paths.{AtPaths}
use Rattle.clr_commands.specs.Run.{IsOpeningOf, rows_fault}
use Rattle.clr_commands.specs.Stored.{WhileOpen}

-- ---- the register of a database, with its place

-- a register and its place, as they were read
abbrev pub Placed : Type 0
Placed = Shelved × Place

-- A REGISTER WAS READ WITH ITS PLACE from a database, which was not changed; or it was not, and why:
-- the database or its place was refused, or it has no journal
abbrev pub IsRead : {S : Type 0} → Ghosts S → Result Placed Fault → Held S → Held S → Type 0
IsRead g (Ok read) before after = IsReadFrom g before after read.0.register
    × HasPlace g before after (Some read.1)
IsRead g (Err fault) before after = IsNotRead g before fault after
    ⊎ IsUnplaced g before fault after
    ⊎ ((fault ≡ Journal why.OtherRegister) × IsUnsuited g before None after)

-- while the database is open
abbrev pub ReadsPlaced : {M S : Type 0} → Ghosts S → Result Placed Fault → M → Held S → Held S
    → Closed → M → Type 0
ReadsPlaced g = WhileOpen (IsRead g)

-- the same over a desk, whose register was read before
abbrev pub IsPlacedRead : {S : Type 0} → Ghosts S → Held S → Register → Result Placed Fault
    → Held S → Type 0
IsPlacedRead g desk R (Ok read) after = (read.0.register ≡ R)
    × HasPlace g desk after (Some read.1) × StaysRead (state g desk) (state g after)
IsPlacedRead g desk R (Err fault) after = StaysRead (state g desk) (state g after)
    × (LacksPlace g desk fault after
    ⊎ ((fault ≡ Journal why.OtherRegister) × HasPlace g desk after None))

-- ---- the journal

-- the lines of further parts, each of which ends whole, and goes on where the one before it ends
unfoldable pub GoOn : List ℕ → ChainEnd → List (List ℕ) → List (List ℕ) → Type 0
GoOn id end [] texts = texts ≡ []
GoOn id end (bytes ∷ rest) texts = (text : List ℕ) × (lines more : List (List ℕ))
    × (next : ChainEnd) × (ended_lines bytes ≡ text ∷ lines) × (ends_whole bytes ≡ true)
    × (part_of id end (read_first text) ≡ (true, next)) × (texts ≡ lines ++ more)
    × GoOn id (walked next lines).1 rest more

-- THE FIRST LINE AND THE LINES AFTER IT, of all parts: no part ends in half a line
pub record HasLines (one : List ℕ) (parts : List (List ℕ)) (first : Place)
    (texts : List (List ℕ)) : Type 0 where
  pub text : List ℕ
  pub lines : List (List ℕ)
  pub more : List (List ℕ)
  pub lines_are : ended_lines one ≡ text ∷ lines
  pub whole : ends_whole one ≡ true
  pub read : read_first text ≡ Some first
  pub go_on : GoOn first.id (walked (end_at first) lines).1 parts more
  pub texts_are : texts ≡ lines ++ more

-- the lines of further parts, as far as they were read
unfoldable pub BeginOn : List ℕ → ChainEnd → List (List ℕ) → List (List ℕ) → Type 0
BeginOn id end [] texts = texts ≡ []
BeginOn id end (bytes ∷ rest) texts = (texts ≡ []) ⊎ ((text : List ℕ)
    × (lines after more : List (List ℕ)) × (next : ChainEnd)
    × (ended_lines bytes ≡ text ∷ (lines ++ after))
    × (part_of id end (read_first text) ≡ (true, next)) × (texts ≡ lines ++ more)
    × ((more ≡ []) ⊎ ((after ≡ []) × BeginOn id (walked next lines).1 rest more)))

-- THE FIRST LINE AND THE LINES AFTER IT, as far as they were read
pub record BeginsWith (one : List ℕ) (parts : List (List ℕ)) (first : Place)
    (texts : List (List ℕ)) : Type 0 where
  pub text : List ℕ
  pub lines : List (List ℕ)
  pub after : List (List ℕ)
  pub more : List (List ℕ)
  pub lines_are : ended_lines one ≡ text ∷ (lines ++ after)
  pub read : read_first text ≡ Some first
  pub texts_are : texts ≡ lines ++ more
  pub go_on : (more ≡ [])
      ⊎ ((after ≡ []) × BeginOn first.id (walked (end_at first) lines).1 parts more)

-- a part ends in half a line, and none of those after it was read
abbrev pub IsHalf : List ℕ → List (List ℕ) → Type 0
IsHalf bytes more = (ends_whole bytes ≡ false) × (more ≡ [])

-- the lines of further parts, up to one that ends in half a line
unfoldable pub HalfOn : List ℕ → ChainEnd → List (List ℕ) → List (List ℕ) → Type 0
HalfOn id end [] texts = ⊥
HalfOn id end (bytes ∷ rest) texts = (text : List ℕ) × (lines more : List (List ℕ))
    × (next : ChainEnd) × (ended_lines bytes ≡ text ∷ lines)
    × (part_of id end (read_first text) ≡ (true, next)) × (texts ≡ lines ++ more)
    × (IsHalf bytes more ⊎ HalfOn id (walked next lines).1 rest more)

-- ALL LINES OF THESE TEXTS hold their sums, and a line after them would have this number
pub record IsNextAfter (first : Place) (texts : List (List ℕ)) (n : ℕ) : Type 0 where
  pub entries : List Entry
  pub lines : AreLines first texts entries
  pub number : n ≡ next_place (read_on (end_at first) texts).end.turn.last

-- A PART ENDS IN HALF A LINE, which would have this number: all lines before it hold their sums
pub record EndsInHalf (one : List ℕ) (parts : List (List ℕ)) (fault : Fault) : Type 0 where
  pub first : Place
  pub text : List ℕ
  pub lines : List (List ℕ)
  pub more : List (List ℕ)
  pub lines_are : ended_lines one ≡ text ∷ lines
  pub read : read_first text ≡ Some first
  pub half : IsHalf one more ⊎ HalfOn first.id (walked (end_at first) lines).1 parts more
  pub number : ℕ
  pub fault_is : fault ≡ Journal (why.BadLine number)
  pub is_next : IsNextAfter first (lines ++ more) number

-- ONE OF THESE LINES IS BAD where the walk has come to it, and would have this number
abbrev pub HasBad : ChainEnd → List (List ℕ) → ℕ → Type 0
HasBad end lines n = (had : List (List ℕ)) × (text : List ℕ) × (after : List (List ℕ))
    × (lines ≡ had ++ text ∷ after) × ((step_of (walked end had).1 text).0 ≡ bad n)

-- one of the lines of further parts is
unfoldable pub BadOn : List ℕ → ChainEnd → List (List ℕ) → ℕ → Type 0
BadOn id end [] n = ⊥
BadOn id end (bytes ∷ rest) n = (text : List ℕ) × (lines : List (List ℕ)) × (next : ChainEnd)
    × (ended_lines bytes ≡ text ∷ lines) × (part_of id end (read_first text) ≡ (true, next))
    × (HasBad next lines n ⊎ BadOn id (walked next lines).1 rest n)

-- one of the lines of a journal is
abbrev pub IsBadIn : List ℕ → List (List ℕ) → Place → ℕ → Type 0
IsBadIn one parts first n = (text : List ℕ) × (lines : List (List ℕ))
    × (ended_lines one ≡ text ∷ lines) × (read_first text ≡ Some first)
    × (HasBad (end_at first) lines n ⊎ BadOn first.id (walked (end_at first) lines).1 parts n)

-- THE FIRST LINE IS OF THESE FILES: its number is 0, and its sum of the files and its id
pub record IsOfFiles (files : Files) (first : Place) : Type 0 where
  pub number : first.number ≡ 0
  pub sum : first.sum ≡ first_sum files first.id

-- `verified 1234 commands`
abbrev pub verified_text : ℕ → List ℕ
verified_text count = codes "verified " ++ decimal count ++ codes " commands\n"

-- the fault that is reported of a check
abbrev pub of_check : CheckFault → Fault
of_check check.OtherRegister = Journal why.OtherRegister
of_check (check.BadLine number) = Journal (why.BadLine number)
of_check (check.Differs number) = Journal (why.Differs number)
of_check check.TooShort = Journal why.TooShort
of_check (check.Reply number) = Verify (Reply number)
of_check (check.Tables found) = Verify (Differs found)
of_check check.NoMemory = Memory

-- why there is no yes
abbrev pub IsOfCheck : Fault → Type 0
IsOfCheck fault = IsOfPart fault ⊎ (fault ≡ Verify OtherFiles)
    ⊎ ((cause : CheckFault) × (fault ≡ of_check cause))

-- why these lines are refused: the last of them does not hold its sum; or so says their run
abbrev pub AreRefused : Place → List (List ℕ) → (CheckFault → Type 0) → CheckFault → Type 0
AreRefused first texts Is cause = Is cause ⊎ ((had : List (List ℕ)) × (text : List ℕ) × (n : ℕ)
    × (texts ≡ had ++ text ∷ []) × (cause ≡ check.BadLine n) × IsBadAfter first had text n)

-- only the end of all lines shows it: no line has a place; or at the last one, which may be
-- withdrawn, the sum of a place is another
abbrev pub IsOfEnd : Place → List (List ℕ) → CheckFault → Type 0
IsOfEnd first texts check.OtherRegister = ⊥
IsOfEnd first texts (check.BadLine n) = ⊥
IsOfEnd first texts (check.Reply n) = ⊥
IsOfEnd first texts (check.Differs n) = ((read_on (end_at first) texts).end.turn.last ≡ n)
    × ((read_on (end_at first) texts).end.turn.is_open ≡ true)
IsOfEnd first texts (check.Tables found) = ⊥
IsOfEnd first texts check.TooShort = ⊤
IsOfEnd first texts check.NoMemory = ⊥

-- WHY THERE IS NO YES of a journal: of its lines as far as they were read; of all of them, where
-- only their end shows it
pub record IsNo (one : List ℕ) (parts : List (List ℕ))
    (Is : Place → List (List ℕ) → CheckFault → Type 0) (fault : Fault) : Type 0 where
  pub first : Place
  pub texts : List (List ℕ)
  pub begins : BeginsWith one parts first texts
  pub cause : CheckFault
  pub fault_is : fault ≡ of_check cause
  pub refused : AreRefused first texts (Is first texts) cause
  pub is_bad : (n : ℕ) → cause ≡ check.BadLine n → IsBadIn one parts first n
  pub whole : IsOfEnd first texts cause → HasLines one parts first texts

-- its first line is not of these files
pub record IsOfOthers (files : Files) (one : List ℕ) (fault : Fault) : Type 0 where
  pub first : Place
  pub text : List ℕ
  pub lines : List (List ℕ)
  pub lines_are : ended_lines one ≡ text ∷ lines
  pub read : read_first text ≡ Some first
  pub not : IsOfFiles files first → ⊥
  pub fault_is : fault ≡ Verify OtherFiles

-- THE LINES OF A PART ARE REFUSED, as far as they were read, whatever was checked before them
pub record RefusesPart (it : Checking) (bytes : List ℕ) (fault : Fault) : Type 0 where
  pub lines : List (List ℕ)
  pub after : List (List ℕ)
  pub all : ended_lines bytes ≡ lines ++ after
  pub cause : CheckFault
  pub fault_is : fault ≡ of_check cause
  pub is_bad : (n : ℕ) → cause ≡ check.BadLine n → HasBad it.walk.end (ended_lines bytes) n
  pub why : (began : Register) (first place : Place) (R : Register) (texts : List (List ℕ))
      → CheckedTo began first place R it texts → (IsOfEnd first (texts ++ lines) cause → ⊥)
      × AreRefused first (texts ++ lines) (IsRefused began first (texts ++ lines) place R) cause
  pub why_from : (copied : Register) (at first place : Place) (R : Register)
      (texts : List (List ℕ)) → CheckedToFrom copied at first place R it texts
      → (IsOfEnd first (texts ++ lines) cause → ⊥) × AreRefused first (texts ++ lines)
      (IsRefusedFrom copied at first (texts ++ lines) place R) cause

-- half a line comes after these, whatever was checked before them
pub record RefusesHalf (it : Checking) (lines : List (List ℕ)) (fault : Fault) : Type 0 where
  pub number : ℕ
  pub fault_is : fault ≡ of_check (check.BadLine number)
  pub why : (began : Register) (first place : Place) (R : Register) (texts : List (List ℕ))
      → CheckedTo began first place R it texts → IsNextAfter first (texts ++ lines) number
  pub why_from : (copied : Register) (at first place : Place) (R : Register)
      (texts : List (List ℕ)) → CheckedToFrom copied at first place R it texts
      → IsNextAfter first (texts ++ lines) number

-- one of the parts ends in it
pub record RefusesHalves (it : Checking) (bytes : List ℕ) (parts : List (List ℕ)) (fault : Fault)
    : Type 0 where
  pub more : List (List ℕ)
  pub half : IsHalf bytes more
      ⊎ HalfOn it.walk.id (walked it.walk.end (ended_lines bytes)).1 parts more
  pub number : ℕ
  pub fault_is : fault ≡ of_check (check.BadLine number)
  pub why : (began : Register) (first place : Place) (R : Register)
      → CheckedTo began first place R it [] → IsNextAfter first (ended_lines bytes ++ more) number
  pub why_from : (copied : Register) (at first place : Place) (R : Register)
      → CheckedToFrom copied at first place R it []
      → IsNextAfter first (ended_lines bytes ++ more) number

-- they are all lines, and no part ends in half a line
abbrev pub IsWhole : Checking → List ℕ → List (List ℕ) → List (List ℕ) → List (List ℕ)
    → List (List ℕ) → Type 0
IsWhole it bytes had after more parts = (after ≡ []) × (ends_whole bytes ≡ true)
    × GoOn it.walk.id (walked it.walk.end had).1 parts more

-- THE LINES OF ALL PARTS ARE REFUSED, as far as they were read
pub record RefusesAll (it : Checking) (bytes : List ℕ) (parts : List (List ℕ)) (fault : Fault)
    : Type 0 where
  pub had : List (List ℕ)
  pub after : List (List ℕ)
  pub more : List (List ℕ)
  pub lines_are : ended_lines bytes ≡ had ++ after
  pub go_on : (more ≡ []) ⊎ ((after ≡ []) × BeginOn it.walk.id (walked it.walk.end had).1 parts more)
  pub cause : CheckFault
  pub fault_is : fault ≡ of_check cause
  pub is_bad : (n : ℕ) → cause ≡ check.BadLine n → HasBad it.walk.end (ended_lines bytes) n
      ⊎ BadOn it.walk.id (walked it.walk.end (ended_lines bytes)).1 parts n
  pub why : (began : Register) (first place : Place) (R : Register)
      → CheckedTo began first place R it []
      → (IsOfEnd first (had ++ more) cause → IsWhole it bytes had after more parts)
      × AreRefused first (had ++ more) (IsRefused began first (had ++ more) place R) cause
  pub why_from : (copied : Register) (at first place : Place) (R : Register)
      → CheckedToFrom copied at first place R it []
      → (IsOfEnd first (had ++ more) cause → IsWhole it bytes had after more parts)
      × AreRefused first (had ++ more) (IsRefusedFrom copied at first (had ++ more) place R) cause

-- why a part was not checked: it was not read, or a line of it is refused, or it ends in half one
abbrev pub RefusesIn : Checking → List ℕ → Fault → Type 0
RefusesIn it bytes fault = RefusesPart it bytes fault
    ⊎ ((ends_whole bytes ≡ false) × RefusesHalf it (ended_lines bytes) fault)

abbrev pub IsRefusedIn : Checking → Option (List ℕ) → Fault → Type 0
IsRefusedIn it left fault = IsOfReading fault ⊎ IfSome left (λ bytes. RefusesIn it bytes fault)

-- why all parts were not: one was not opened or read, or is refused by its first line; or a line,
-- or one ends in half a line
abbrev pub RefusesSome : Checking → List ℕ → List (List ℕ) → Fault → Type 0
RefusesSome it bytes parts fault =
    BreaksAfter it.walk.id (walked it.walk.end (ended_lines bytes)).1 parts fault
    ⊎ RefusesAll it bytes parts fault
    ⊎ RefusesHalves it bytes parts fault

abbrev pub IsRefusedBy : Checking → Option (List ℕ) → Option (List (List ℕ)) → Fault → Type 0
IsRefusedBy it left parts fault = IsUnreadPart fault
    ⊎ IfSome left (λ bytes. IfSome parts (λ known. RefusesSome it bytes known fault))

-- the first line is not of these files, unless memory ran out
abbrev pub AreOthers : Files → Place → Fault → Type 0
AreOthers files first fault = (fault ≡ Memory)
    ⊎ ((fault ≡ Verify OtherFiles) × (IsOfFiles files first → ⊥))

-- ONE STATE OF A CHECK LEADS TO ANOTHER by these lines, whatever was checked before them
pub record ChecksOn (old new : Checking) (lines : List (List ℕ)) : Type 0 where
  pub end : new.walk.end ≡ (walked old.walk.end lines).1
  pub went : (began : Register) (first place : Place) (R : Register) (texts : List (List ℕ))
      → CheckedTo began first place R old texts
      → CheckedTo began first place R new (texts ++ lines)
  pub went_from : (copied : Register) (at first place : Place) (R : Register)
      (texts : List (List ℕ)) → CheckedToFrom copied at first place R old texts
      → CheckedToFrom copied at first place R new (texts ++ lines)

-- THE YES OF A CHECK at a first line: of the lines of these bytes, and of those of the further parts
pub record ChecksAll (it : Checking) (bytes : List ℕ) (parts : List (List ℕ)) (text : List ℕ)
    : Type 0 where
  pub whole : ends_whole bytes ≡ true
  pub more : List (List ℕ)
  pub go_on : GoOn it.walk.id (walked it.walk.end (ended_lines bytes)).1 parts more
  pub count : ℕ
  pub text_is : text ≡ verified_text count
  pub yes : (began : Register) (first place : Place) (R : Register)
      → CheckedTo began first place R it []
      → IsChecked began first (ended_lines bytes ++ more) place R count
  pub yes_from : (copied : Register) (at first place : Place) (R : Register)
      → CheckedToFrom copied at first place R it []
      → IsCheckedFrom copied at first (ended_lines bytes ++ more) place R count

-- THE YES OF A JOURNAL in these parts, for a register at this place: its first line is of the files,
-- and the register is level with it
pub record IsYes (files : Files) (began : Register) (one : List ℕ) (parts : List (List ℕ))
    (place : Place) (R : Register) (text : List ℕ) : Type 0 where
  pub first : Place
  pub texts : List (List ℕ)
  pub has_lines : HasLines one parts first texts
  pub of_files : IsOfFiles files first
  pub count : ℕ
  pub checked : IsChecked began first texts place R count
  pub text_is : text ≡ verified_text count

abbrev pub Checks : Files → Register → List ℕ → List (List ℕ) → Place → Register
    → Result (String Global) Fault → Type 0
Checks files began one parts place R (Ok text) =
    IsYes files began one parts place R (string_bytes text)
Checks files began one parts place R (Err fault) = IsUnreadPart fault
    ⊎ Breaks one parts fault
    ⊎ IsOfOthers files one fault
    ⊎ IsNo one parts (λ first texts. IsRefused began first texts place R) fault
    ⊎ EndsInHalf one parts fault

-- from a copy, which is at a place too
pub record IsYesFrom (copied : Register) (at : Place) (one : List ℕ) (parts : List (List ℕ))
    (place : Place) (R : Register) (text : List ℕ) : Type 0 where
  pub first : Place
  pub texts : List (List ℕ)
  pub has_lines : HasLines one parts first texts
  pub count : ℕ
  pub checked : IsCheckedFrom copied at first texts place R count
  pub text_is : text ≡ verified_text count

abbrev pub ChecksFrom : Register → Place → List ℕ → List (List ℕ) → Place → Register
    → Result (String Global) Fault → Type 0
ChecksFrom copied at one parts place R (Ok text) =
    IsYesFrom copied at one parts place R (string_bytes text)
ChecksFrom copied at one parts place R (Err fault) = IsUnreadPart fault
    ⊎ Breaks one parts fault
    ⊎ IsNo one parts (λ first texts. IsRefusedFrom copied at first texts place R) fault
    ⊎ EndsInHalf one parts fault

-- ---- a part that went unread

-- of a fault that says so, the first part or a further one could not be opened, or a read of it
-- failed
abbrev pub FailsSome : AtPaths → Bor (List ℕ) → List (Bor (List ℕ)) → Fault → Type 0
FailsSome at path parts fault = (fault ≡ Journal why.OpenFailed) ⊎ (fault ≡ Journal why.ReadFailed)
    → at.fails path.now ⊎ ((place : ℕ) × IsSomeAnd (slice_get parts place) (λ it. at.fails it.now))

-- the same of a first part that was opened
abbrev pub FailsFrom : {F : Type 0} → (F → ℕ) → F → AtPaths → List (Bor (List ℕ)) → Fault → Type 0
FailsFrom failures source at parts fault = FailsLater failures source fault ⊎ FailsAny at parts fault

-- ---- the subcommand

-- where the bytes of all parts are known
abbrev pub WhereKnown : Option (List ℕ) → Option (List (List ℕ))
    → (List ℕ → List (List ℕ) → Type 0) → Type 0
WhereKnown one parts Is = IfSome one (λ bytes. IfSome parts (λ more. Is bytes more))

-- WHAT `verify` DOES of the rows of its files: they are no network or no staff, and nothing is
-- opened; or the register of the database is read, and then the journal is checked
pub record VerifiesRows {M : Type 0} (at : AtPaths) (args : VerifyArgs) (rows : FileRows)
    (texts : Contents) (Reads : Result Placed Fault → M → M → Type 0)
    (result : Result (String Global) Fault) (old new : M) : Type 0 where
  pub began : Register
  pub is_opening : IsOpeningOf rows began
  pub read : Result Placed Fault
  pub reads : Reads read old new
  pub answer : After read (λ placed told. WhereKnown (at.bytes args.journal.now)
      (all_known (map (λ path. at.bytes path.now) args.parts.items)) (λ one parts.
      Checks (files_of texts) began one parts placed.1 placed.0.register told)
      × IfErr told (FailsSome at args.journal args.parts.items)) result

abbrev pub VerifiesAt : {M : Type 0} → AtPaths → VerifyArgs
    → (Result Placed Fault → M → M → Type 0) → Result (String Global) Fault → M → M → Type 0
VerifiesAt at args Reads result old new =
    AnswersFiles at args.files (new ≡ old) (λ rows told. (texts : Contents)
    × (rows_of texts ≡ Ok rows) × AreKnown at.bytes args.files texts
    × (((fault : Fault) × (told ≡ Err fault) × (fault ≢ Memory → rows_fault rows ≡ Err fault)
    × (new ≡ old))
    ⊎ VerifiesRows at args rows texts Reads told old new)) result

-- WHAT `verify --from` DOES: the register of the copy is read, then that of the database, and then the
-- journal is checked from the copy's place on
pub record VerifiesFromAt {M : Type 0} (at : AtPaths) (args : VerifyFromArgs)
    (CopyReads Reads : Result Placed Fault → M → M → Type 0)
    (result : Result (String Global) Fault) (old new : M) : Type 0 where
  pub copy : Result Placed Fault
  pub middle : M
  pub copied : CopyReads copy old middle
  pub unread : OnErr copy (new ≡ middle)
  pub answer : After copy (λ from told. (read : Result Placed Fault) × Reads read middle new
      × After read (λ placed said. WhereKnown (at.bytes args.journal.now)
      (all_known (map (λ path. at.bytes path.now) args.parts.items)) (λ one parts.
      ChecksFrom from.0.register from.1 one parts placed.1 placed.0.register said)
      × IfErr said (FailsSome at args.journal args.parts.items)) told) result

-- ---- what its yes says

-- A YES IS OF A LEVEL PAIR: no part ends in half a line, and the lines of the journal, up to the
-- place of the register, are those of a run over the register of the files, with these replies, to
-- one with the same tables
abbrev pub YesIsLevel : Type 0
YesIsLevel = (files : Files) (began : Register) (one : List ℕ) (parts : List (List ℕ))
    (place : Place) (R : Register) (text : List ℕ)
    → IsYes files began one parts place R text
    → (first : Place) × (texts : List (List ℕ)) × HasLines one parts first texts
    × IsOfFiles files first × (count : ℕ) × (text ≡ verified_text count)
    × IsChecked began first texts place R count
