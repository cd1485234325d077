-- THE HEADLINE OVER HTTP: requests that show a clearance the same get it the same responses, byte
-- for byte.
use Rattle.std.specs.Prelude.{◌≡◌, ◌≤◌, ◌<◌, ◌-◌, ◌^◌, ℕ, Bool, true, List, length, map}
use Rattle.std.specs.Prelude.{Option, None, Some}
use Rattle.clr_rules.specs.Agreement.{Agree}
use Rattle.clr_rules.specs.Answer.{Answer, answer}
use Rattle.clr_rules.specs.CrewSafety.{CrewsWorkSafely}
use Rattle.clr_rules.specs.Good.{IsGood}
use Rattle.clr_rules.specs.Id.{Id}
use Rattle.clr_rules.specs.Isolation.{LeftAlone, ShowTheSame, ShowsOwnAlone, is_others}
use Rattle.clr_rules.specs.Register.{Register}
use Rattle.clr_rules.specs.Run.{after, after_all, replies}
use Rattle.clr_rules.specs.RunHeadline.{IsRun, OthersChangeNoReply, OthersTakeNothing}
use Rattle.clr_rules.specs.RunHeadline.{OwnStandAlone, own_replies}
use Rattle.clr_rules.specs.declared.command.Command.{Command}
use Rattle.clr_rules.specs.declared.reply.Reply.{Reply}
use Rattle.clr_http.specs.Asked.{AskEach, Asks, commands_asked, own_among, own_asked, reply_bytes}
use Rattle.clr_http.specs.Respond.{Outcome, Responds, reply_response}
use Rattle.clr_http.specs.Service.{HaveHeads, IsExchange, RespondsAll, ServesAll}
use Rattle.clr_http.specs.Registrar.{Keeper}

-- a register that at most n commands lead to
abbrev pub ComesWithin : ℕ → Register → Register → Type 0
ComesWithin n R S = (commands : List Command) × (length commands ≤ n)
    × (S ≡ after_all R commands)

-- an input asks one thing
abbrev pub AskedOnce : Type 0
AskedOnce = (input : List ℕ) (one other : Option Command) → Asks input one → Asks input other
    → one ≡ other

-- A REQUEST THAT IS A COMMAND gets the response that has its reply, and leaves the register that the
-- command leaves
abbrev pub CommandsAreAnswered : Type 0
CommandsAreAnswered = (R : Register) (input : List ℕ) (q : Command) (o : Outcome)
    → Responds R input o → Asks input (Some q)
    → (o.response ≡ reply_response (Answer.reply (answer R q))) × (o.left ≡ after R q)

-- A REQUEST THAT IS NONE changes nothing
abbrev pub OnlyCommandsChange : Type 0
OnlyCommandsChange = (R : Register) (input : List ℕ) (o : Outcome) → Responds R input o
    → Asks input None → o.left ≡ R

-- ---- inputs that are served, by the commands of them that are carried out: `ServesAll`. An input
-- without a head, a printed order, the board, and one that gets the 503 are no command

-- WITHOUT A FAULT all that is asked is carried out: inputs are served as the definitions answer them
abbrev pub AnswersAreServed : Type 0
AnswersAreServed = (k l : Keeper) (inputs responses : List (List ℕ)) (asked : List (Option Command))
    → RespondsAll k.register inputs responses l.register → AskEach inputs asked
    → l.faults ≡ k.faults → ServesAll k inputs asked responses l

abbrev pub ServedAreAnswers : Type 0
ServedAreAnswers = (k l : Keeper) (inputs responses : List (List ℕ))
    (carried : List (Option Command)) → ServesAll k inputs carried responses l → HaveHeads inputs
    → k.faults < 2 ^ 64 - 1 → l.faults ≡ k.faults
    → RespondsAll k.register inputs responses l.register × AskEach inputs carried

-- RESPONSES ARE A RUN of the commands that are carried out: it leaves the same register, and its
-- replies to a clearance's own commands, as bytes, are the responses to the clearance's own requests
pub record AreRun (R : Register) (carried : List (Option Command)) (responses : List (List ℕ))
    (told : List Reply) (S : Register) : Type 0 where
  pub run : IsRun R (commands_asked carried) told S
  pub responses_are : (c : Id) → own_among c carried responses
      ≡ map reply_bytes (own_replies c (commands_asked carried) told)

abbrev pub RequestsAreRuns : Type 0
RequestsAreRuns = (k l : Keeper) (inputs responses : List (List ℕ))
    (carried : List (Option Command)) → ServesAll k inputs carried responses l
    → AreRun k.register carried responses (replies k.register (commands_asked carried)) l.register

-- FIRST HALF: two registers and two lists of requests show a clearance the same, by the commands
-- that are carried out. Then its own requests get the same bytes, and the registers agree again
abbrev pub SameShownSameResponses : Type 0
SameShownSameResponses = (c : Id) (inside : List ℕ → Bool) (k l m n : Keeper)
    (inputs others responses answers : List (List ℕ)) (carried wanted : List (Option Command))
    → ServesAll k inputs carried responses l → ServesAll m others wanted answers n
    → ShowTheSame c inside k.register (commands_asked carried) m.register (commands_asked wanted)
    → (own_among c carried responses ≡ own_among c wanted answers)
    × Agree c inside l.register n.register

-- SECOND HALF: after any requests, one about another clearance leaves a clearance's record, steps
-- and holds as they are, clears no hand of it, and each point that the clearance holds open is open
abbrev pub OthersRequestsTakeNothing : Type 0
OthersRequestsTakeNothing = (k l m : Keeper) (inputs responses : List (List ℕ))
    (carried : List (Option Command)) (c : Id) (input bytes : List ℕ) (q : Command)
    → IsGood k.register → ServesAll k inputs carried responses l
    → IsExchange l m input (Some q) bytes → is_others c l.register q ≡ true
    → LeftAlone c l.register m.register

-- THE CONSEQUENCE: where no request of others marks the set, a clearance's own requests get the
-- bytes that they get alone
abbrev pub OwnRequestsAlone : Type 0
OwnRequestsAlone = (c : Id) (inside : List ℕ → Bool) (k l m n : Keeper)
    (inputs responses alone : List (List ℕ)) (carried : List (Option Command))
    → ServesAll k inputs carried responses l
    → ShowsOwnAlone c inside k.register (commands_asked carried) → m.register ≡ k.register
    → ServesAll m (own_among c carried inputs) (own_asked c carried) alone n
    → own_among c carried responses ≡ alone

-- what is said of inputs that were served, whatever they are: the commands of them that were carried
-- out, of which the responses are a run; the three statements hold of it, and crews work safely in it
pub record HasRun (k : Keeper) (inputs responses : List (List ℕ)) (l : Keeper) : Type 0 where
  pub carried : List (Option Command)
  pub served : ServesAll k inputs carried responses l
  pub told : List Reply
  pub run : AreRun k.register carried responses told l.register
  pub headline : OthersChangeNoReply k.register (commands_asked carried) told l.register
  pub untouched : OthersTakeNothing k.register (commands_asked carried)
  pub alone : OwnStandAlone k.register (commands_asked carried) told
  pub safe : CrewsWorkSafely k.register (commands_asked carried) l.register
