-- WHAT A CONNECTION PUTS TO ITS REGISTER: the command that it asks, once, at its login; or nothing.
use Rattle.std.specs.Prelude.{◌≡◌, ◌⊎◌, ⊤, ℕ, Bool, if◌then◌else◌, List, Option, None, Some, IfSome}
use Rattle.std.specs.Prelude.{Result, Ok, Err}
use Rattle.httparse.specs.Grammar.{RequestHead}
use Rattle.clr_rules.specs.declared.command.Command.{Command}
use Rattle.clr_rules.specs.declared.reply.Reply.{Reply}
use Rattle.clr_http.specs.Asked.{MayAskAt, asked_in_at}
use Rattle.clr_http.specs.Callers.{login_of, permitted}
use Rattle.clr_http.specs.Fields.{fields_of}
use Rattle.clr_http.specs.Head.{BeginsWith}
use Rattle.clr_http.specs.declared.callers.Speaker.{Speaker}
use Rattle.clr_http.specs.declared.options.Service.{Service}
use Rattle.clr_http.specs.declared.serve.HttpFault.{HttpFault}
use Rattle.clr_http.specs.declared.serve.HttpFault.TheVariants.{NoMemory, ReadFailed, WriteFailed}
use Rattle.clr_http.specs.declared.serve.Served.{Served}

-- a state, a login, a command, its reply if it got one, and the state after it
abbrev pub Putting : Type 0 → Type 1
Putting D = D → Option (List ℕ) → Command → Option Reply → D → Type 0

-- the login at which a command is put: at a desk that of the request, otherwise none
abbrev pub login_noted : Bool → Option (List ℕ) → Option (List ℕ)
login_noted desk login = if desk then login else None

-- THE COMMAND IS PUT ONCE, at its login
abbrev pub IsPutOnce : {D : Type 0} → Putting D → D → Option (List ℕ) → Command → D → Type 0
IsPutOnce takes old login q new = (reply : Option Reply) × takes old login q reply new

-- what is asked is put once; nothing is where nothing is asked, or for this reason
abbrev pub PutsAsked : {D : Type 0} → Putting D → Option (List ℕ) → Option Command → Type 0 → D → D
    → Type 0
PutsAsked takes login None reason old new = new ≡ old
PutsAsked takes login (Some q) reason old new =
    IsPutOnce takes old login q new ⊎ (reason × (new ≡ old))

-- what a speaker asks, if it may, is put at its login
abbrev pub PutsSpoken : {D : Type 0} → Putting D → Speaker → Option Command → Type 0 → D → D
    → Type 0
PutsSpoken takes s asked reason old new =
    PutsAsked takes (login_noted s.noted s.login) (permitted s.logins.now s.login asked)
    reason old new

-- an input gives this command to a service, at this login
abbrev pub GivesAt : Service → List ℕ → Option (List ℕ) → Command → Type 0
GivesAt service input login q = (head : RequestHead) × (rest : List ℕ)
    × BeginsWith input head rest × (login ≡ login_noted service.desk (login_of (fields_of head)))
    × (Some q ≡ asked_in_at service head rest)

-- no response was made
abbrev pub IsUnmade : Result Served HttpFault → Type 0
IsUnmade (Ok served) = ⊥
IsUnmade (Err ReadFailed) = ⊤
IsUnmade (Err (WriteFailed count)) = ⊥
IsUnmade (Err NoMemory) = ⊤

-- A CONNECTION PUTS the command that its input gives, once, at its login, as far as the input is
-- known; or nothing, where it asks none or no response was made
abbrev pub PutsAt : {D : Type 0} → Putting D → Service → Option (List ℕ) → Result Served HttpFault
    → D → D → Type 0
PutsAt takes service input result old new =
    ((login : Option (List ℕ)) × (q : Command)
    × IfSome input (λ bytes. GivesAt service bytes login q)
    × IsPutOnce takes old login q new)
    ⊎ ((MayAskAt service input None ⊎ IsUnmade result) × (new ≡ old))
