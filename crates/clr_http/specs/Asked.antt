-- WHAT REQUESTS ASK: no command or one each, whatever the register; and which responses answer the
-- commands of a clearance.
use Rattle.std.specs.Prelude.{◌≡◌, ◌⊎◌, IfSome, ℕ, Bool, false, if◌then◌else◌, filter, List, [], ◌∷◌}
use Rattle.std.specs.Prelude.{Option, None, Some}
use Rattle.httparse.specs.Grammar.{RequestHead}
use Rattle.clr_rules.specs.Id.{Id}
use Rattle.clr_rules.specs.Shown.{is_own_command}
use Rattle.clr_rules.specs.declared.command.Command.{Command}
use Rattle.clr_rules.specs.declared.reply.Reply.{Reply}
use Rattle.clr_http.specs.Head.{BeginsWith, HasHead}
use Rattle.clr_http.specs.Options.{plain}
use Rattle.clr_http.specs.Request.{request_read_at}
use Rattle.clr_http.specs.Respond.{reply_response}
use Rattle.clr_http.specs.Response.{response_bytes}
use Rattle.clr_http.specs.declared.options.Service.{Service}
pub use Rattle.clr_http.specs.Reading.{body_asks, reading_asks, target_asks, view_asks}

-- WHAT AN INPUT ASKS of a service: the command that its head and the bytes after it read as, if they
-- do, in a name that its login may use
abbrev pub asked_in_at : Service → RequestHead → List ℕ → Option Command
asked_in_at service head rest = reading_asks (request_read_at service head rest)

-- an input without a head asks nothing
abbrev pub AsksAt : Service → List ℕ → Option Command → Type 0
AsksAt service input command = ((head : RequestHead) × (rest : List ℕ)
    × BeginsWith input head rest × (command ≡ asked_in_at service head rest))
    ⊎ (¬ (HasHead (Some input)) × (command ≡ None))

-- an input that may not be known asks this, as far as it is
abbrev pub MayAskAt : Service → Option (List ℕ) → Option Command → Type 0
MayAskAt service input command = IfSome input (λ bytes. AsksAt service bytes command)

-- ---- of the plain service

abbrev pub asked_in : RequestHead → List ℕ → Option Command
asked_in = asked_in_at plain

abbrev pub Asks : List ℕ → Option Command → Type 0
Asks = AsksAt plain

abbrev pub MayAsk : Option (List ℕ) → Option Command → Type 0
MayAsk = MayAskAt plain

-- each input asks what is at its place
unfoldable pub AskEach : List (List ℕ) → List (Option Command) → Type 0
AskEach [] [] = Unit {0}
AskEach (input ∷ inputs) (command ∷ later) = Asks input command × AskEach inputs later
AskEach [] (command ∷ later) = ⊥
AskEach (input ∷ inputs) [] = ⊥

abbrev pub with_asked : Option Command → List Command → List Command
with_asked None commands = commands
with_asked (Some q) commands = q ∷ commands

-- the commands that are asked
unfoldable pub commands_asked : List (Option Command) → List Command
commands_asked [] = []
commands_asked (command ∷ later) = with_asked command (commands_asked later)

-- ---- the requests of a clearance

abbrev pub is_own_request : Id → Option Command → Bool
is_own_request c None = false
is_own_request c (Some q) = is_own_command c q

-- its own inputs, and the responses to them: each at the place of what it asks
unfoldable pub own_among : Id → List (Option Command) → List (List ℕ) → List (List ℕ)
own_among c [] texts = []
own_among c (command ∷ later) [] = []
own_among c (command ∷ later) (text ∷ texts) =
    if is_own_request c command then text ∷ own_among c later texts else own_among c later texts

-- what its own inputs ask
abbrev pub own_asked : Id → List (Option Command) → List (Option Command)
own_asked c asked = filter (is_own_request c) asked

-- the bytes of the response that has a reply
abbrev pub reply_bytes : Reply → List ℕ
reply_bytes reply = response_bytes (reply_response reply)
