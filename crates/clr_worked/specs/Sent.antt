-- COMMANDS THAT ARE POSTED, each as the text that is written for it: what they ask, and the
-- responses of a register without a fault.
use Rattle.std.specs.Prelude.{◌≡◌, ℕ, nat_le, Bool, true, ◌&&◌, List, length, map, Option, Some}
use Rattle.std.specs.List.{list_all}
use Rattle.clr_rules.specs.Register.{Register}
use Rattle.clr_rules.specs.Run.{after_all, replies}
use Rattle.clr_rules.specs.declared.command.Command.{Command}
use Rattle.clr_text.specs.CommandText.{can_be_sent, command_text}
use Rattle.clr_http.specs.Asked.{AskEach, reply_bytes}
use Rattle.clr_http.specs.Posted.{posted}
use Rattle.clr_http.specs.Service.{RespondsAll}

-- the request that posts a command
abbrev pub request_of : Command → List ℕ
request_of q = posted (command_text q)

abbrev pub requests_of : List Command → List (List ℕ)
requests_of commands = map request_of commands

abbrev pub asked_by : List Command → List (Option Command)
asked_by commands = map (λ q. Some q) commands

-- a command can be posted: it can be sent, and its text is no longer than a body may be
abbrev pub can_be_posted : Command → Bool
can_be_posted q = can_be_sent q && nat_le (length (command_text q)) 65536

abbrev pub can_all_be_posted : List Command → Bool
can_all_be_posted commands = list_all can_be_posted commands

-- the responses that have the replies of a run
abbrev pub responses_of : Register → List Command → List (List ℕ)
responses_of R commands = map reply_bytes (replies R commands)

-- POSTED COMMANDS ARE ASKED, each by its request
abbrev pub PostedCommandsAsk : Type 0
PostedCommandsAsk = (commands : List Command) → can_all_be_posted commands ≡ true
    → AskEach (requests_of commands) (asked_by commands)

-- and they are answered by their replies
abbrev pub PostedCommandsAreAnswered : Type 0
PostedCommandsAreAnswered = (R : Register) (commands : List Command)
    → can_all_be_posted commands ≡ true
    → RespondsAll R (requests_of commands) (responses_of R commands) (after_all R commands)

-- and by nothing else
abbrev pub PostedCommandsHaveNoOtherAnswer : Type 0
PostedCommandsHaveNoOtherAnswer = (R S : Register) (commands : List Command)
    (responses : List (List ℕ)) → can_all_be_posted commands ≡ true
    → RespondsAll R (requests_of commands) responses S
    → (responses ≡ responses_of R commands) × (S ≡ after_all R commands)
