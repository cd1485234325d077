-- ROLLING FORWARD: what an opening carries out of the lines after a register's place.
use Rattle.std.specs.Prelude.{◌≡◌, ◌≢◌, ◌≤◌, ◌⊎◌, ℕ, true, false, List, [], ◌∷◌, ◌++◌, Option}
use Rattle.std.specs.Prelude.{None, Some, IfSome, Result, Ok, Err, ⊤, if◌then◌else◌, ◌&&◌, not}
use Rattle.std.specs.List.{list_any}
use Rattle.serde_json.specs.Data.{depth}
use Rattle.serde_json.specs.View.{view}
use Rattle.sqlite.specs.State.{State, Survives}
use Rattle.clr_rules.specs.Register.{Register}
use Rattle.clr_rules.specs.declared.command.Command.{Command}
use Rattle.clr_rules.specs.declared.reply.Reply.{Reply}
use Rattle.clr_answer.specs.Decision.{is_accepted as accepts}
use Rattle.clr_rules.specs.declared.place.Place.{Place}
use Rattle.clr_changes.specs.Deeds.{Deed, after_deed, archive, command, deed_of, update}
use Rattle.clr_journal.specs.Answered.{deed_reply}
use Rattle.clr_journal.specs.Journals.{carried_out, next_place, withdraws}
use Rattle.clr_journal.specs.Line.{Entry, carried, is_accepted, withdrawn}
use Rattle.clr_journal.specs.declared.line.Carried.{Carried}
use Rattle.clr_journal.specs.declared.line.Line.{Line}
use Rattle.clr_journal.specs.declared.line.Line.TheVariants as line
use Rattle.clr_chain.specs.Chain.{chain_text}
use Rattle.clr_chain.specs.Level.{IsLevel, IsRunOf, place_after}
use Rattle.clr_chain.specs.Link.{has_fraction}
use Rattle.clr_chain.specs.declared.finding.Ahead.{Ahead}
use Rattle.clr_chain.specs.declared.finding.Found.{Found}
use Rattle.clr_chain.specs.declared.finding.Found.TheVariants as found
use Rattle.clr_desk.specs.Faults.{IsOfKeeper}
use Rattle.clr_desk.specs.Given.{LeadsTo}
use Rattle.clr_load.specs.TableEdits.{tables_edited}
use Rattle.clr_store.specs.Transaction.{Transacts}
use Rattle.clr_desk.specs.Placing.{Placing, SetsPlace, StaysOpen}
use Rattle.clr_desk.specs.Renewing.{ComesTo as Renews}
use Rattle.clr_desk.specs.Taking.{Came, Taking}
use Rattle.clr_desk.specs.declared.desk.Desk.{Desk}
use Rattle.clr_desk.specs.declared.desk_fault.DeskFault.{DeskFault}
use Rattle.clr_level.specs.Placing.{ArePlacedAt, ComesTo, IsAt, StaysShown}
use Rattle.clr_level.specs.declared.fault.OpeningFault.{OpeningFault}
use Rattle.clr_level.specs.declared.fault.OpeningFault.TheVariants.{OtherRegister, OtherRules}
use Rattle.clr_level.specs.declared.fault.OpeningFault.TheVariants.{TooShort, Differs, BadLine}
use Rattle.clr_level.specs.declared.fault.OpeningFault.TheVariants.{Desk as Failed}
use Rattle.clr_level.specs.declared.keeper.Keeper.{Keeper}
use Rattle.clr_level.specs.declared.placing.Placed.{Placed}

-- its reply nests no deeper than any that is read
abbrev pub IsShallow : Entry → Type 0
IsShallow (carried receipt q reply) = depth reply ≤ 127
IsShallow (withdrawn n) = ⊤

abbrev pub AreShallow : List Entry → Type 0
AreShallow [] = ⊤
AreShallow (entry ∷ rest) = IsShallow entry × AreShallow rest

-- a deed that was accepted is open until it is known whether the next line withdraws it
abbrev pub open_entries : Option Carried → List Entry
open_entries None = []
open_entries (Some one) = carried one.receipt (deed_of one.deed) (view one.reply) ∷ []

abbrev pub IsAccepted : Carried → Type 0
IsAccepted one = is_accepted (view one.reply) ≡ true

abbrev pub opened_by : Line → Option Carried
opened_by (line.Carried one) = if is_accepted (view one.reply) then Some one else None
opened_by (line.Withdrawn n) = None

-- the open deed at a line: one that has a deed closes it before
abbrev pub open_after : Line → Option Carried → Option Carried
open_after (line.Carried one) open_one = None
open_after (line.Withdrawn n) open_one = open_one

-- HOW FAR A REGISTER HAS COME of these lines, which come after its place. It has the deeds of the
-- first; of those after them none is left to be done; then come the open one, and the rest
pub record HasCome (has_place : Placing) (R : Register) (place : Place) (lines : List Entry)
    (S : Register) (s : State) (at : Place) (open_one : Option Carried) (rest : List Entry)
    : Type 0 where
  pub had : List Entry
  pub idle : List Entry
  pub all_is : lines ≡ had ++ ((idle ++ open_entries open_one) ++ rest)
  pub begins : withdraws ((idle ++ open_entries open_one) ++ rest) ≡ false
  pub none : carried_out idle ≡ []
  pub accepted : IfSome open_one IsAccepted
  pub run : IsRunOf R (carried_out had) S
  pub at_is : at ≡ place_after place (had ++ (idle ++ open_entries open_one))
  pub placed : IsAt has_place s (place_after place had)
  pub shallow : AreShallow (open_entries open_one ++ rest)

-- it has come somewhere
pub record HasStopped (has_place : Placing) (R : Register) (place : Place) (lines : List Entry)
    (S : Register) (s : State) : Type 0 where
  pub at : Place
  pub open_one : Option Carried
  pub rest : List Entry
  pub come : HasCome has_place R place lines S s at open_one rest

-- ---- whether deeds are answered as their lines say

-- the deed of a line, where it was accepted and the next line does not withdraw it
abbrev pub due : Line → List Entry → Option Carried
due (line.Carried one) rest = if is_accepted (view one.reply) && not (withdraws rest) then Some one
    else None
due (line.Withdrawn n) rest = None

abbrev pub entry_with : Carried → Entry
entry_with one = carried one.receipt (deed_of one.deed) (view one.reply)

-- the first deed of these lines that was accepted and not withdrawn, and the lines after its own
pub record IsNext (lines : List Entry) (one : Carried) (rest : List Entry) : Type 0 where
  pub before : List Entry
  pub all_is : lines ≡ before ++ entry_with one ∷ rest
  pub accepted : IsAccepted one
  pub kept : withdraws rest ≡ false
  pub out : carried_out lines ≡ (deed_of one.deed, view one.reply) ∷ carried_out rest

-- ALL LINES ARE ANSWERED AS THEY SAY: the deeds that they say were carried out are a run from
-- this register, with their replies
abbrev pub AreAnswered : Register → List Entry → Type 0
AreAnswered R lines = (S : Register) × IsRunOf R (carried_out lines) S

-- THE LINE OF THIS NUMBER DIFFERS: the deeds before it are a run from this register, with their
-- replies. The register that the run leaves answers the deed of the line otherwise, which was
-- accepted and not withdrawn
pub record DiffersAt (R : Register) (lines : List Entry) (number : ℕ) : Type 0 where
  pub before : List Entry
  pub one : Carried
  pub rest : List Entry
  pub all_is : lines ≡ before ++ entry_with one ∷ rest
  pub number_is : number ≡ one.receipt.number
  pub accepted : IsAccepted one
  pub kept : withdraws rest ≡ false
  pub leaves : Register
  pub run : IsRunOf R (carried_out before) leaves
  pub other : view one.reply ≢ deed_reply leaves (deed_of one.deed)

-- the first line that differs, if there is one
abbrev pub IsTried : Register → List Entry → Option ℕ → Type 0
IsTried R lines None = AreAnswered R lines
IsTried R lines (Some number) = DiffersAt R lines number

-- ---- what comes of lines

-- it has come to a line whose reply has a number that is no whole number, as no line of a chain
-- has. The line would have this number
pub record HasFractionAt (has_place : Placing) (R : Register) (place : Place) (lines : List Entry)
    (number : ℕ) (S : Register) (s : State) : Type 0 where
  pub stopped : HasStopped has_place R place lines S s
  pub entry : Entry
  pub later : List Entry
  pub rest_is : HasStopped.rest stopped ≡ entry ∷ later
  pub fraction : has_fraction entry ≡ true
  pub number_is : number ≡ next_place (HasStopped.at stopped).number

-- WHERE LINES STOP, by the fault: at one that differs the register is as it was. What an opening
-- finds in the journal is no fault of this
abbrev pub StopsAt : Placing → Register → Place → List Entry → OpeningFault → Register → State
    → Type 0
StopsAt has_place R place lines (Differs n) S s = (S ≡ R) × DiffersAt R lines n
StopsAt has_place R place lines (OtherRules n) S s = ⊥
StopsAt has_place R place lines OtherRegister S s = ⊥
StopsAt has_place R place lines TooShort S s = ⊥
StopsAt has_place R place lines (BadLine n) S s = HasFractionAt has_place R place lines n S s
StopsAt has_place R place lines (Failed cause) S s = HasStopped has_place R place lines S s

-- WHY DEEDS OF LINES ARE NOT CARRIED OUT: what keeps their changes answered this fault, memory ran
-- out, or the reply of one of the lines has a number that is no whole number
abbrev pub IsOfCarrying : (DeskFault → Type 0) → List Entry → OpeningFault → Type 0
IsOfCarrying fails lines (OtherRules n) = ⊥
IsOfCarrying fails lines OtherRegister = ⊥
IsOfCarrying fails lines TooShort = ⊥
IsOfCarrying fails lines (Differs n) = ⊥
IsOfCarrying fails lines (BadLine n) = list_any has_fraction lines ≡ true
IsOfCarrying fails lines (Failed cause) = IsOfKeeper fails cause

-- WHY A DESK IS NOT GIVEN ITS JOURNAL: as they were tried one line differed, or deeds were not
-- carried out
abbrev pub IsOfForward : (DeskFault → Type 0) → List Entry → OpeningFault → Type 0
IsOfForward fails lines fault = ((number : ℕ) × (fault ≡ Differs number))
    ⊎ IsOfCarrying fails lines fault

abbrev pub Went : {K : Type 0} → (K → State) → Placing → Register → Place → List Entry
    → Result (Unit {0}) OpeningFault → Desk K → Place → Option Carried → List Entry → Type 0
Went kept has_place R place lines (Ok done) desk at open_one rest =
    HasCome has_place R place lines desk.book.register (kept desk.store) at open_one rest
Went kept has_place R place lines (Err fault) desk at open_one rest =
    StopsAt has_place R place lines fault desk.book.register (kept desk.store)

-- IT HAS ARRIVED: no deed is open, and the keeper has the place that was come to
abbrev pub Arrives : {K : Type 0} → (K → State) → Placing → Register → Place → List Entry
    → Result (Unit {0}) OpeningFault → Desk K → Place → List Entry → Type 0
Arrives kept has_place R place lines (Ok done) desk at rest =
    HasCome has_place R place lines desk.book.register (kept desk.store) at None rest
    × IsAt has_place (kept desk.store) at
Arrives kept has_place R place lines (Err fault) desk at rest =
    StopsAt has_place R place lines fault desk.book.register (kept desk.store)

-- ---- the place

-- a keeper was called to move its place, and this came of it
abbrev pub IsMoved : {K : Type 0} → (K → State) → Placing → K → K → Type 0
IsMoved kept has_place old new = (place : Place) × (came : Came)
    × Transacts (SetsPlace has_place place) StaysOpen (kept old) (kept new) (tables_edited []) came

-- a deed is an update or an archive, which is committed also where it changes nothing
abbrev pub IsNoCommand : Deed → Type 0
IsNoCommand (command q) = ⊥
IsNoCommand (update of) = ⊤
IsNoCommand (archive before) = ⊤

-- ITS REGISTER CAME TO THE ONE AFTER A DEED, which is an update or an archive, with a place; or a
-- fault left it
pub record IsRenewed {K : Type 0} (kept : K → State) (has_place : Placing) (old new : Desk K)
    : Type 0 where
  pub deed : Deed
  pub is : IsNoCommand deed
  pub place : Place
  pub came : Came
  pub comes : Renews kept has_place (λ fault. ⊤) ⊤ old new (after_deed old.book.register deed)
      place came

-- A DESK GOES THROUGH THESE STATES: to each it came by commands that it was given, or by an update
-- or an archive
unfoldable pub GoesThrough : {K : Type 0} → (K → State) → Taking K → Placing → Desk K
    → List (Desk K) → Desk K → Type 0
GoesThrough kept takes has_place old [] new = new ≡ old
GoesThrough kept takes has_place old (next ∷ later) new =
    (LeadsTo kept takes old next ⊎ IsRenewed kept has_place old next)
    × GoesThrough kept takes has_place next later new

abbrev pub GoesOn : {K : Type 0} → (K → State) → Taking K → Placing → Desk K → Desk K
    → Type 0
GoesOn {K} kept takes has_place old new = (through : List (Desk K))
    × GoesThrough kept takes has_place old through new

-- A DESK IS ROLLED FORWARD: it went on by deeds, and after them its place may have been moved
pub record RollsTo {K : Type 0} (kept : K → State) (takes : Taking K)
    (has_place : Placing) (old new : Desk K) : Type 0 where
  pub before : Desk K
  pub led : GoesOn kept takes has_place old before
  pub book : new.book ≡ before.book
  pub store : (new.store ≡ before.store) ⊎ IsMoved kept has_place before.store new.store

-- ---- one command

-- a keeper below, with one place for each change
pub record Carries {K : Type 0} (takes : Taking K) (kept : K → State) (has_place : Placing)
    (old : Placed K) (login : Option (List ℕ)) (q : Command) (reply : Reply) (came : Came)
    (new : Placed K) : Type 0 where
  pub taken : takes old.keeper None q reply came new.keeper
  pub same : new.place ≡ old.place
  pub placed : came ≡ Ok tt → accepts reply ≡ true
      → ComesTo has_place (kept old.keeper) (kept new.keeper) old.place
  pub stays : (fault : DeskFault) → came ≡ Err fault → StaysShown (kept old.keeper) (kept new.keeper)
  -- a crash leaves what it left before, or the place
  pub crash : Survives (kept old.keeper) (kept new.keeper)
      (ArePlacedAt has_place (kept old.keeper).now old.place)

-- ---- the opening

-- what is found gives the lines ahead, or the fault of its name
abbrev pub IsAheadOf : Found → Result Ahead OpeningFault → Type 0
IsAheadOf (found.OtherRules n) result = result ≡ Err (OtherRules n)
IsAheadOf found.OtherRegister result = result ≡ Err OtherRegister
IsAheadOf found.TooShort result = result ≡ Err TooShort
IsAheadOf (found.Differs n) result = result ≡ Err (Differs n)
IsAheadOf (found.BadLine n) result = result ≡ Err (BadLine n)
IsAheadOf (found.Ahead ahead) result = result ≡ Ok ahead

-- A REGISTER AND A JOURNAL CAN BE OPENED: they are level at this place, and these lines come after it
pub record CanBeOpened (has_place : Placing) (first : Register) (start place : Place)
    (R : Register) (s : State) (text : List ℕ) (lines : List Entry) : Type 0 where
  pub entries : List Entry
  pub level : IsLevel first start entries place R
  pub text_is : text ≡ chain_text start entries
  pub more_is : IsLevel.more level ≡ lines
  pub placed : IsAt has_place s place
  pub shallow : AreShallow lines

-- a desk with a journal goes on from a state that the desk without it came to
pub record IsOver {K J C : Type 0} (leads_to : Desk K → Desk K → Type 0) (desk : Desk K)
    (opened : Desk (Keeper K J C)) : Type 0 where
  pub before : Desk K
  pub led : leads_to desk before
  pub book : opened.book ≡ before.book
  pub keeper : opened.store.keeper ≡ before.store
