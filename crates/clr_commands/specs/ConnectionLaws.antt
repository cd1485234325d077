-- THE HEADLINE OF A PORT: the commands that its connections carry out, one after the other, are a
-- run, and its replies are their responses.
use Rattle.std.specs.Prelude.{◌≡◌, ◌<◌, ◌⊎◌, ℕ, ◌+◌, Bool, false, true, List, [], ◌∷◌, length}
use Rattle.std.specs.Prelude.{Option, None, Some, Result}
use Rattle.clr_stream.specs.Streams.{Stream}
use Rattle.clr_rules.specs.Agreement.{Agree}
use Rattle.clr_rules.specs.Answer.{Answer, answer}
use Rattle.clr_rules.specs.CrewSafety.{CrewsWorkSafely}
use Rattle.clr_rules.specs.Good.{IsGood}
use Rattle.clr_rules.specs.Id.{Id}
use Rattle.clr_rules.specs.Isolation.{ShowTheSame}
use Rattle.clr_rules.specs.Register.{Register}
use Rattle.clr_rules.specs.Run.{after_all}
use Rattle.clr_rules.specs.RunHeadline.{OthersChangeNoReply, OthersTakeNothing, OwnStandAlone}
use Rattle.clr_rules.specs.declared.command.Command.{Command}
use Rattle.clr_rules.specs.declared.reply.Reply.{Reply}
use Rattle.clr_http.specs.Asked.{MayAskAt, commands_asked, own_among, reply_bytes, with_asked}
use Rattle.clr_http.specs.Carried.{IsToldAt}
use Rattle.clr_http.specs.Registrar.{Keeper}
use Rattle.clr_http.specs.RequestLaws.{AreRun}
use Rattle.clr_http.specs.Response.{response_bytes}
use Rattle.clr_http.specs.Served.{IsWritten}
use Rattle.clr_http.specs.declared.options.Service.{Service}
use Rattle.clr_http.specs.declared.registrar.Registrar as registrar
use Rattle.clr_http.specs.declared.serve.HttpFault.{HttpFault}
use Rattle.clr_http.specs.declared.serve.Served.{Served}
use Rattle.clr_edge.specs.declared.loopback.Loopback as loopback
use Rattle.clr_edge.specs.declared.fault.Fault.{Fault}
use Rattle.clr_edge.specs.declared.fault.Fault.TheVariants.{Accept, Journal}
use Rattle.clr_edge.specs.declared.fault.JournalFault.TheVariants.{InDoubt}
use Rattle.clr_commands.specs.Connections.{Answers, EndsAfter, EndsInDoubt, Misses, Seen}
use Rattle.clr_commands.specs.declared.serve.Terms.{Terms}

-- whether a server that ended with this fault had served connections
abbrev pub is_early : Fault → Bool
is_early Accept = true
is_early (Journal InDoubt) = true
is_early fault = false

-- the response to a command has its reply
abbrev pub HasReply : Register → Option Command → List ℕ → Type 0
HasReply R None response = Unit {0}
HasReply R (Some q) response = response ≡ reply_bytes (Answer.reply (answer R q))

-- WHAT A CONNECTION CARRIES OUT: this command, which it asks of the service, or none; and its
-- response, of which the whole went out, or the first bytes, or nothing
pub record CarriesOut (service : Service) (input : Option (List ℕ)) (old new : Keeper)
    (before behind : Stream) (served : Result Served HttpFault) (carried : Option Command)
    (response : List ℕ) : Type 0 where
  pub left : new.register ≡ after_all old.register (with_asked carried [])
  pub reply : HasReply old.register carried response
  pub asked : MayAskAt service input carried ⊎ (carried ≡ None)
  pub written : IsWritten (λ c.
      IsToldAt service input carried old new c × (response ≡ response_bytes c))
      before behind served

module _ {D M L R W : Type 0} (by : registrar.Ghosts D) (net : loopback.Ghosts M L R W)
    (seen : Seen R W) (terms : Terms) (listener : L) where
  -- THE NEXT CONNECTION carries this out, with this response; where none could be taken, nothing
  abbrev pub CarriesNext : ℕ → D → D → Stream → Stream → M → M → Option Command → List ℕ
      → Type 0
  CarriesNext number d d' errors errors' old new carried response =
      ((it : Answers by net seen terms listener number d d' errors errors' old new)
      × CarriesOut terms.service (seen.source it.connection.reader).remaining
      (by.keeper d) (by.keeper d')
      (seen.stream it.connection.writer) (seen.stream it.answered.writer) it.served.0
      carried response)
      ⊎ (Misses by net seen terms listener number d d' errors errors' old new
      × (carried ≡ None) × (response ≡ []))

  -- CONNECTIONS FROM THIS NUMBER ON, one after the other: what each carries out, and its response,
  -- at the place of the connection
  unfoldable pub CarriesAll : ℕ → D → D → Stream → Stream → M → M
      → List (Option Command) → List (List ℕ) → Type 0
  CarriesAll number d d' errors errors' old new [] [] =
      (new ≡ old) × (d' ≡ d) × (errors' ≡ errors)
  CarriesAll number d d' errors errors' old new (carried ∷ later) (response ∷ others) =
      (middle : M) × (between : D) × (reported : Stream)
      × CarriesNext number d between errors reported old middle carried response
      × CarriesAll (number + 1) between d' reported errors' middle new later others
  CarriesAll number d d' errors errors' old new [] (response ∷ others) = ⊥
  CarriesAll number d d' errors errors' old new (carried ∷ later) [] = ⊥

  -- WHAT IS SAID OF THE FIRST CONNECTIONS: what each carries out, of which the responses are a run;
  -- the three statements hold of it, and crews work safely in it
  pub record ConnectionsHaveRun (n : ℕ) (d d' : D) (errors errors' : Stream) (old new : M)
      : Type 0 where
    pub carried : List (Option Command)
    pub responses : List (List ℕ)
    pub each : CarriesAll 1 d d' errors errors' old new carried responses
    pub count : length carried ≡ n
    pub told : List Reply
    pub run : AreRun (by.keeper d).register carried responses told (by.keeper d').register
    pub headline : OthersChangeNoReply (by.keeper d).register (commands_asked carried) told
        (by.keeper d').register
    pub untouched : OthersTakeNothing (by.keeper d).register (commands_asked carried)
    pub alone : OwnStandAlone (by.keeper d).register (commands_asked carried) told
    pub safe : CrewsWorkSafely (by.keeper d).register (commands_asked carried)
        (by.keeper d').register

  -- A SERVER OF A DESK MISSED ITS NEXT CONNECTION: those that were taken have run
  abbrev pub EndsUntaken : D → D → Stream → Stream → M → M → Type 0
  EndsUntaken d d' errors errors' old new = (n : ℕ) × (n < terms.count)
      × (it : EndsAfter by net seen terms listener n d d' errors errors' old new)
      × (IsGood (by.keeper d).register → ConnectionsHaveRun n d d' errors errors' old it.middle)

  -- A SERVER IS IN DOUBT of its last change: its connections have run, this one too
  abbrev pub EndsDoubting : D → D → Stream → Stream → M → M → Type 0
  EndsDoubting d d' errors errors' old new = (n : ℕ) × (n < terms.count)
      × EndsInDoubt by net seen terms listener n d d' errors errors' old new
      × (IsGood (by.keeper d).register → ConnectionsHaveRun (n + 1) d d' errors errors' old new)

  -- A SERVER ENDED EARLY, with this fault
  abbrev pub EndsEarly : Fault → D → D → Stream → Stream → M → M → Type 0
  EndsEarly fault d d' errors errors' old new =
      ((fault ≡ Accept) × EndsUntaken d d' errors errors' old new)
      ⊎ ((fault ≡ Journal InDoubt) × EndsDoubting d d' errors errors' old new)

-- TWO RUNS THAT SHOW A CLEARANCE THE SAME, of connections of ports or of requests in memory: the
-- responses to its own requests are the same bytes, and the registers that are left agree again
abbrev pub RunsGetTheSame : Type 0
RunsGetTheSame = (c : Id) (inside : List ℕ → Bool) (R S T U : Register)
    (carried wanted : List (Option Command)) (responses answers : List (List ℕ))
    (told replied : List Reply) → AreRun R carried responses told S
    → AreRun T wanted answers replied U
    → ShowTheSame c inside R (commands_asked carried) T (commands_asked wanted)
    → (own_among c carried responses ≡ own_among c wanted answers) × Agree c inside S U
