-- A KEEPER WITH A JOURNAL: which line a command, an update or an archive has, and when.
use Rattle.std.specs.Prelude.{◌≡◌, ◌≢◌, ◌⊎◌, ◌+◌, ◌^◌, ◌<◌, ◌&&◌, ◌||◌, ℕ, nat_lt, Bool, true, false}
use Rattle.std.specs.Prelude.{List, length, not, Option, Some, None, Ok, Err, if◌then◌else◌}
use Rattle.sqlite.specs.State.{State}
use Rattle.sqlite_disk.specs.Disk.{Only}
use Rattle.clr_journal.specs.Journal.{BeginsWith, with_line}
use Rattle.clr_rules.specs.declared.command.Command.{Command}
use Rattle.clr_rules.specs.declared.command.Kind.{Kind}
use Rattle.clr_rules.specs.declared.command.Kind.TheVariants as kinds
use Rattle.clr_rules.specs.declared.reply.Reply.{Reply}
use Rattle.clr_answer.specs.Decision.{is_accepted}
use Rattle.clr_changes.specs.Deeds.{Deed, command}
use Rattle.clr_rules.specs.declared.place.Place.{Place}
use Rattle.clr_text.specs.Replies.{reply_data}
use Rattle.clr_journal.specs.Line.{Entry, brief_kind, carried, done, withdrawn}
use Rattle.clr_journal.specs.declared.line.Receipt.{Receipt}
use Rattle.clr_chain.specs.Level.{place_with}
use Rattle.clr_chain.specs.Link.{link_text}
use Rattle.clr_chain.specs.Sums.{sum_after}
use Rattle.clr_desk.specs.Taking.{Came, Taking}
use Rattle.clr_desk.specs.declared.desk_fault.DeskFault.{DeskFault}
use Rattle.clr_desk.specs.declared.desk_fault.DeskFault.TheVariants.{Journal, NoMemory, Store}
use Rattle.clr_desk.specs.Placing.{Placing}
use Rattle.clr_level.specs.Placing.{ComesTo, StaysShown}
use Rattle.clr_level.specs.declared.keeper.Keeper.{Keeper}
use Rattle.clr_level.specs.declared.last.Last.{Last}
use Rattle.clr_level.specs.declared.last.Last.TheVariants.{Doubtful, Owed, Settled}

-- ---- the line of a command

abbrev pub brief_of : Command → Kind → Command
brief_of q kind = record { caller = q.caller; moment = q.moment; kind = kind }

abbrev pub brief : Command → Option Kind → Command
brief q None = q
brief q (Some kind) = brief_of q kind

-- the text of a line has more than 2,048 bytes
abbrev pub is_long : List ℕ → Entry → Bool
is_long sum entry = nat_lt 2048 (length (link_text entry (sum_after sum entry)))

abbrev pub line_with : Receipt → Command → Reply → Entry
line_with receipt q reply = carried receipt (command q) (reply_data reply)

-- the command that a line has, after this sum: a refused one whose line would be long is noted
-- without its lists and its text
abbrev pub command_of : List ℕ → Receipt → Command → Reply → Command
command_of sum receipt q reply =
    if not (is_accepted reply) && is_long sum (line_with receipt q reply)
    then brief q (brief_kind q.kind) else q

-- THE LINE OF A COMMAND, after this sum
abbrev pub line_of : List ℕ → Receipt → Command → Reply → Entry
line_of sum receipt q reply = line_with receipt (command_of sum receipt q reply) reply

abbrev pub is_show : Kind → Bool
is_show (kinds.Show c) = true
is_show kind = false

-- a command that asks, and is refused, has no line
abbrev pub has_line : Command → Reply → Bool
has_line q reply = is_accepted reply || not (is_show q.kind)

-- ---- what a journal says, with the withdrawal that is owed

-- a text with the line of an entry more, after this sum
abbrev pub with_link : List ℕ → List ℕ → Entry → List ℕ
with_link text sum entry = with_line text (link_text entry (sum_after sum entry))

abbrev pub text_owed : Last → Place → List ℕ → List ℕ
text_owed Settled at text = text
text_owed Owed at text = with_link text at.sum (withdrawn at.number)
text_owed Doubtful at text = text

abbrev pub end_owed : Last → Place → Place
end_owed Settled at = at
end_owed Owed at = place_with at (withdrawn at.number)
end_owed Doubtful at = at

abbrev pub said : {K J C : Type 0} → (J → List ℕ) → Keeper K J C → List ℕ
said text it = text_owed it.last it.at (text it.journal)

abbrev pub end_said : {K J C : Type 0} → Keeper K J C → Place
end_said it = end_owed it.last it.at

abbrev pub is_doubtful : Last → Bool
is_doubtful Settled = false
is_doubtful Owed = false
is_doubtful Doubtful = true

-- ---- one command

-- THE LINE OF A COMMAND is added to what the journal says: the next number, the login at which it is
-- given, the command and its reply. It was received when the clock shows
pub record IsNoted {K J C : Type 0} (shows : C → ℕ → Type 0) (text : J → List ℕ)
    (old : Keeper K J C) (given_at : Option (List ℕ)) (q : Command) (reply : Reply)
    (new : Keeper K J C) : Type 0 where
  pub receipt : Receipt
  pub number : receipt.number ≡ (end_said old).number + 1
  pub within : receipt.number < 2 ^ 64
  pub login : receipt.login ≡ given_at
  pub clock : new.clock ≡ old.clock
  pub received : shows new.clock receipt.received
  pub text_is : text new.journal ≡ with_link (said text old) (end_said old).sum
      (line_of (end_said old).sum receipt q reply)
  pub end_is : new.at ≡ place_with (end_said old) (line_of (end_said old).sum receipt q reply)
  pub certain : is_doubtful old.last ≡ false

-- THE LINE OF AN UPDATE OR OF AN ARCHIVE that is carried out is added in the same way. It has no
-- login, and its numbers have 64 bits
pub record IsDeedNoted {K J C : Type 0} (shows : C → ℕ → Type 0) (text : J → List ℕ)
    (old : Keeper K J C) (deed : Deed) (new : Keeper K J C) : Type 0 where
  pub receipt : Receipt
  pub number : receipt.number ≡ (end_said old).number + 1
  pub within : receipt.number < 2 ^ 64
  pub login : receipt.login ≡ None
  pub clock : new.clock ≡ old.clock
  pub received : shows new.clock receipt.received
  pub timed : receipt.received < 2 ^ 64
  pub text_is : text new.journal ≡ with_link (said text old) (end_said old).sum
      (carried receipt deed done)
  pub end_is : new.at ≡ place_with (end_said old) (carried receipt deed done)
  pub certain : is_doubtful old.last ≡ false

-- NO LINE IS ADDED to what the journal says; where a withdrawal is owed, it may have been. A journal
-- in doubt stays so
pub record IsUnnoted {K J C : Type 0} (text : J → List ℕ) (old new : Keeper K J C) : Type 0 where
  pub text_is : said text new ≡ said text old
  pub end_is : end_said new ≡ end_said old
  pub clock : new.clock ≡ old.clock
  pub doubt : is_doubtful new.last ≡ false → is_doubtful old.last ≡ false
  pub owes : new.last ≡ Owed
      → (old.last ≡ Owed) × (text new.journal ≡ text old.journal) × (new.at ≡ old.at)

-- nothing changes but the keeper below
pub record IsAsItWas {K J C : Type 0} (old new : Keeper K J C) : Type 0 where
  pub journal : new.journal ≡ old.journal
  pub clock : new.clock ≡ old.clock
  pub at : new.at ≡ old.at
  pub last : new.last ≡ old.last

-- but for the keeper below, and what is known of the last line
pub record IsBeside {K J C : Type 0} (mid new : Keeper K J C) : Type 0 where
  pub journal : new.journal ≡ mid.journal
  pub clock : new.clock ≡ mid.clock
  pub at : new.at ≡ mid.at
  pub synced : new.is_synced ≡ mid.is_synced

-- the journal was not written, or memory ran out
abbrev pub IsOfJournal : DeskFault → Type 0
IsOfJournal fault = (fault ≡ Journal) ⊎ (fault ≡ NoMemory)

-- where the journal is in doubt, the fault is its own
abbrev pub IsItsOwn : Last → DeskFault → Type 0
IsItsOwn last fault = last ≡ Doubtful → fault ≡ Journal

-- what a fault of the keeper leaves of a line whose command was accepted: where memory ran out the
-- keeper goes on as it was, and the line is to be withdrawn; otherwise it may have kept the change
abbrev pub left_by : DeskFault → Last
left_by NoMemory = Owed
left_by (Store cause) = Doubtful
left_by Journal = Doubtful

abbrev pub left : Bool → DeskFault → Last
left true fault = left_by fault
left false fault = Settled

-- a crash leaves this text
abbrev pub IsDurable : {J : Type 0} → (J → List ℕ) → (J → List ℕ → Type 0) → J → Type 0
IsDurable text may_leave journal = Only (text journal) (may_leave journal)

-- the bytes that there are begin with the text
abbrev pub HasText : {J : Type 0} → (J → List ℕ) → (J → List ℕ) → J → Type 0
HasText text found journal = BeginsWith (text journal) (found journal)

-- WHAT A KEEPER HOLDS OF ITS JOURNAL IS TRUE: the bytes that there are begin with the text; and
-- where it holds them for synced, a crash leaves no others
pub record IsSound {K J C : Type 0} (text found : J → List ℕ) (may_leave : J → List ℕ → Type 0)
    (it : Keeper K J C) : Type 0 where
  pub begins : HasText text found it.journal
  pub synced : it.is_synced ≡ true → Only (found it.journal) (may_leave it.journal)

-- A CRASH LEAVES ALL OF THIS TEXT, whatever it leaves after it
abbrev pub IsKept : {J : Type 0} → (J → List ℕ → Type 0) → List ℕ → J → Type 0
IsKept may_leave text journal = (bytes : List ℕ) → may_leave journal bytes → BeginsWith text bytes

-- A FRONT OF THE TEXT IS SAFE: a crash leaves it
pub record IsSafe {J : Type 0} (text : J → List ℕ) (may_leave : J → List ℕ → Type 0)
    (front : List ℕ) (journal : J) : Type 0 where
  pub begins : BeginsWith front (text journal)
  pub kept : IsKept may_leave front journal

-- what was safe is
abbrev pub StaySafe : {J : Type 0} → (J → List ℕ) → (J → List ℕ → Type 0) → J → J → Type 0
StaySafe text may_leave old new = (front : List ℕ) → IsSafe text may_leave front old
    → IsSafe text may_leave front new

-- A WITHDRAWAL THAT WAS OWED IS SAFE once it is owed no more and nothing is in doubt, whatever came
-- of the command: a crash leaves it, and all lines before. So it is synced before a later command
-- can have a line
abbrev pub IsWithdrawn : {K J C : Type 0} → (J → List ℕ) → (J → List ℕ → Type 0)
    → Keeper K J C → Keeper K J C → Type 0
IsWithdrawn text may_leave old new = old.last ≡ Owed → new.last ≡ Settled
    → IsSafe text may_leave (said text old) new.journal

-- WHAT A JOURNAL IS LEFT AS: with the withdrawal that is owed, which a crash leaves then, unless the
-- sync failed; or as it is, where none is owed or none could be written. What was safe is
pub record IsLeftAs {K J C : Type 0} (text : J → List ℕ) (may_leave : J → List ℕ → Type 0)
    (is_usable : J → Bool) (it : Keeper K J C) (journal : J) : Type 0 where
  pub text_is : ((text journal ≡ said text it)
      × (IsDurable text may_leave journal ⊎ (is_usable journal ≡ false)))
      ⊎ (text journal ≡ text it.journal)
  pub same : it.last ≢ Owed → journal ≡ it.journal
  pub safe : StaySafe text may_leave it.journal journal

-- A JOURNAL IS NEWLY IN DOUBT only where it can be used no more: a sync of it failed
abbrev pub DoubtHasCause : {K J C : Type 0} → (J → Bool) → Keeper K J C → Keeper K J C → Type 0
DoubtHasCause is_usable old new = new.last ≡ Doubtful
    → (old.last ≡ Doubtful) ⊎ (is_usable new.journal ≡ false)

-- THE LINE WAS NOT SYNCED, which was noted so: its deed is accepted, and it is not known whether a
-- crash leaves the line. It leaves all lines before
pub record IsUnsynced {K J C : Type 0} (text found : J → List ℕ)
    (may_leave : J → List ℕ → Type 0) (old : Keeper K J C) (Noted : Type 0) (accepts : Bool)
    (fault : DeskFault) (new : Keeper K J C) : Type 0 where
  pub noted : Noted
  pub accepted : accepts ≡ true
  pub doubtful : new.last ≡ Doubtful
  pub cause : fault ≡ Journal
  pub before : IsSound text found may_leave old → IsKept may_leave (said text old) new.journal

-- A LINE WAS NOT WRITTEN. Where that of an accepted deed may have been tried, which is where nothing
-- is owed or in doubt, a crash leaves all lines before
pub record HasNoLine {K J C : Type 0} (text found : J → List ℕ) (may_leave : J → List ℕ → Type 0)
    (old : Keeper K J C) (accepts : Bool) (fault : DeskFault) (new : Keeper K J C) : Type 0 where
  pub unnoted : IsUnnoted text old new
  pub cause : IsOfJournal fault
  pub its_own : IsItsOwn new.last fault
  pub before : accepts ≡ true → new.last ≡ Settled → IsSound text found may_leave old
      → IsKept may_leave (said text old) new.journal

-- A LINE WAS NOT WRITTEN, or not synced, of a deed that is accepted or not
abbrev pub LacksLine : {K J C : Type 0} → (J → List ℕ) → (J → List ℕ) → (J → List ℕ → Type 0)
    → Keeper K J C → Type 0 → Bool → DeskFault → Keeper K J C → Type 0
LacksLine text found may_leave old Noted accepts fault new =
    HasNoLine text found may_leave old accepts fault new
    ⊎ IsUnsynced text found may_leave old Noted accepts fault new

-- that of a command
abbrev pub IsUnwritten : {K J C : Type 0} → (C → ℕ → Type 0) → (J → List ℕ) → (J → List ℕ)
    → (J → List ℕ → Type 0) → Keeper K J C → Option (List ℕ) → Command → Reply → DeskFault
    → Keeper K J C → Type 0
IsUnwritten shows text found may_leave old login q reply fault new =
    LacksLine text found may_leave old (IsNoted shows text old login q reply new)
    (is_accepted reply) fault new

-- that of an update or of an archive
abbrev pub IsDeedUnwritten : {K J C : Type 0} → (C → ℕ → Type 0) → (J → List ℕ) → (J → List ℕ)
    → (J → List ℕ → Type 0) → Keeper K J C → Deed → DeskFault → Keeper K J C → Type 0
IsDeedUnwritten shows text found may_leave old deed fault new =
    LacksLine text found may_leave old (IsDeedNoted shows text old deed new) true fault new

-- A COMMAND THAT IS NOT CARRIED OUT: its line was not written, and the keeper was not called; or
-- the keeper failed after it, where the line of one that is accepted is durable; or it failed at a
-- command that has no line
pub data Misses {K J C : Type 0} (takes : Taking K) (kept : K → State) (shows : C → ℕ → Type 0)
    (text found : J → List ℕ) (may_leave : J → List ℕ → Type 0) (is_usable : J → Bool)
    (old : Keeper K J C) (login : Option (List ℕ)) (q : Command) (reply : Reply)
    (fault : DeskFault) (new : Keeper K J C) : Type 0 where
  unwritten : IsUnwritten shows text found may_leave old login q reply fault new
      → DoubtHasCause is_usable old new → new.keeper ≡ old.keeper
      → Misses takes kept shows text found may_leave is_usable old login q reply fault new
  unkept : IsNoted shows text old login q reply new → new.last ≡ left (is_accepted reply) fault
      → (is_accepted reply ≡ true → IsDurable text may_leave new.journal)
      → takes old.keeper None q reply (Err fault) new.keeper
      → StaysShown (kept old.keeper) (kept new.keeper)
      → Misses takes kept shows text found may_leave is_usable old login q reply fault new
  unasked : has_line q reply ≡ false → IsAsItWas old new
      → takes old.keeper None q reply (Err fault) new.keeper
      → StaysShown (kept old.keeper) (kept new.keeper)
      → Misses takes kept shows text found may_leave is_usable old login q reply fault new

-- A COMMAND AT A KEEPER WITH A JOURNAL: it is carried out only with its line, which is durable
-- where it is accepted, and with the place at that line
pub record Journals {K J C : Type 0} (takes : Taking K) (kept : K → State) (has_place : Placing)
    (shows : C → ℕ → Type 0) (text found : J → List ℕ) (may_leave : J → List ℕ → Type 0)
    (is_usable : J → Bool) (old : Keeper K J C) (login : Option (List ℕ)) (q : Command)
    (reply : Reply) (came : Came) (new : Keeper K J C) : Type 0 where
  pub noted : came ≡ Ok tt → has_line q reply ≡ true
      → IsNoted shows text old login q reply new × (new.last ≡ Settled)
  pub asked : came ≡ Ok tt → has_line q reply ≡ false → IsAsItWas old new
  pub durable : came ≡ Ok tt → is_accepted reply ≡ true → IsDurable text may_leave new.journal
  pub placed : came ≡ Ok tt → is_accepted reply ≡ true
      → ComesTo has_place (kept old.keeper) (kept new.keeper) new.at
  pub stays : came ≡ Ok tt → is_accepted reply ≡ false
      → StaysShown (kept old.keeper) (kept new.keeper)
  pub taken : came ≡ Ok tt → takes old.keeper None q reply (Ok tt) new.keeper
  pub missed : (fault : DeskFault) → came ≡ Err fault
      → Misses takes kept shows text found may_leave is_usable old login q reply fault new
  pub sound : IsSound text found may_leave old → IsSound text found may_leave new
  pub safe : StaySafe text may_leave old.journal new.journal
  pub withdrawn : IsWithdrawn text may_leave old new

-- its faults are those of the keeper, and of the journal
abbrev pub FailsToo : (DeskFault → Type 0) → DeskFault → Type 0
FailsToo fails fault = (fault ≡ Journal) ⊎ fails fault
