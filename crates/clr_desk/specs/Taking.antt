-- HOW A KEEPER IS CALLED: once for each command that is accepted or refused, with the command and
-- the login at which it is given and the very reply, and not at all for one that only asks. A keeper
-- has a relation of its own, `takes`, between its states: a call with this login, this command and
-- this reply led from the one to the other, and this came of it.
use Rattle.std.specs.Prelude.{◌≡◌, ◌⊎◌, ℕ, Bool, true, false, List, [], ◌∷◌, Option, None, Some}
use Rattle.std.specs.Prelude.{Result, Ok, Err, length, drop}
use Rattle.clr_rules.specs.Answer.{Answer}
use Rattle.clr_rules.specs.Register.{Register}
use Rattle.clr_rules.specs.declared.command.Command.{Command}
use Rattle.clr_rules.specs.declared.reply.Reply.{Reply}
use Rattle.clr_rules.specs.declared.reply.Reply.TheVariants.{Accepted, Shown, Refused, Added}
use Rattle.clr_book.specs.Own.{asked_answer}
use Rattle.clr_desk.specs.declared.desk_fault.DeskFault.{DeskFault}
use Rattle.clr_desk.specs.declared.desk_fault.DeskFault.TheVariants.{NoMemory}

-- what comes of a call: nothing, or a fault
abbrev pub Came : Type 0
Came = Result (Unit {0}) DeskFault

-- the relation of a keeper
abbrev pub Taking : Type 0 → Type 1
Taking K = K → Option (List ℕ) → Command → Reply → Came → K → Type 0

-- the reply says that the command was refused
abbrev pub is_refused : Reply → Bool
is_refused (Accepted card) = false
is_refused (Shown view) = false
is_refused (Refused refusal) = true
is_refused (Added point) = false

-- ---- what a desk does

-- a command with this reply: one call, but for a command that only asks
abbrev pub Takes : {K : Type 0} → Taking K → K → Option (List ℕ) → Command → Reply → Came → K
    → Type 0
Takes takes old login q (Shown view) came new = (new ≡ old) × (came ≡ Ok tt)
Takes takes old login q reply came new = takes old login q reply came new

-- A COMMAND AT A REGISTER, and what came of it: a reply, with which the keeper was called; or a
-- fault, for which memory ran out before the call, or which the call met, with the reply due
abbrev pub TakesOne : {K : Type 0} → Taking K → Register → K → Option (List ℕ) → Command
    → Result Reply DeskFault → K → Type 0
TakesOne takes R old login q (Ok reply) new = Takes takes old login q reply (Ok tt) new
TakesOne takes R old login q (Err fault) new = ((fault ≡ NoMemory) × (new ≡ old))
    ⊎ Takes takes old login q (Answer.reply (asked_answer R q)) (Err fault) new

-- the first commands of a list, one after the other, with these replies, at no login
unfoldable pub TakesAll : {K : Type 0} → Taking K → K → List Command → List Reply → K → Type 0
TakesAll takes old commands [] new = new ≡ old
TakesAll takes old [] (reply ∷ replies) new = ⊥
TakesAll takes old (q ∷ commands) (reply ∷ replies) new = (between : _)
    × Takes takes old None q reply (Ok tt) between × TakesAll takes between commands replies new

-- the end of a run, before these commands: the first of them met the fault, if there is one
abbrev pub Stops : {K : Type 0} → Taking K → Register → K → List Command → Option DeskFault → K
    → Type 0
Stops takes R old commands None new = new ≡ old
Stops takes R old [] (Some fault) new = ⊥
Stops takes R old (q ∷ commands) (Some fault) new = TakesOne takes R old None q (Err fault) new

-- A RUN that leaves this register: its commands with a reply, then the one that met the fault
abbrev pub TakesRun : {K : Type 0} → Taking K → Register → K → List Command → List Reply
    → Option DeskFault → K → Type 0
TakesRun {K} takes R old commands replies fault new = (before : K)
    × TakesAll takes old commands replies before
    × Stops takes R before (drop (length replies) commands) fault new

-- ---- what a keeper does

-- it passes over a refused command
abbrev pub PassesOver : {K : Type 0} → K → Option (List ℕ) → Command → Reply → Came → K → Type 0
PassesOver old login q (Refused refusal) came new = (new ≡ old) × (came ≡ Ok tt)
PassesOver old login q reply came new = Unit {0}

-- it fails at nothing, and stays as it is
abbrev pub NeverFails : {K : Type 0} → K → Option (List ℕ) → Command → Reply → Came → K → Type 0
NeverFails old login q reply came new = (new ≡ old) × (came ≡ Ok tt)
