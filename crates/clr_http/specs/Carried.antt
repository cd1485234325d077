-- WHAT A CONNECTION CARRIES OUT of the register that it is answered from: no command, or the one that
-- it asks.
use Rattle.std.specs.Prelude.{◌≡◌, ◌≢◌, ◌⊎◌, ℕ, List, [], Option, None, Some, Result}
use Rattle.clr_stream.specs.Streams.{Stream}
use Rattle.clr_rules.specs.Answer.{Answer, answer}
use Rattle.clr_rules.specs.Run.{after}
use Rattle.clr_rules.specs.RunHeadline.{IsRun}
use Rattle.clr_rules.specs.declared.command.Command.{Command}
use Rattle.clr_rules.specs.declared.reply.Reply.{Reply}
use Rattle.clr_http.specs.Asked.{MayAskAt, with_asked}
use Rattle.clr_http.specs.Options.{plain}
use Rattle.clr_http.specs.Registrar.{CountsFault, Keeper}
use Rattle.clr_http.specs.Respond.{reply_response}
use Rattle.clr_http.specs.Response.{Content, fault_response, status_of}
use Rattle.clr_http.specs.Served.{IsWritten}
use Rattle.clr_http.specs.declared.options.Service.{Service}
use Rattle.clr_http.specs.declared.response.Fault.TheVariants.{Unavailable}
use Rattle.clr_http.specs.declared.serve.HttpFault.{HttpFault}
use Rattle.clr_http.specs.declared.serve.Served.{Served}

-- THE RESPONSE of a connection, by the command that was carried out: its reply, and no fault is
-- counted. Where none was, the register is as it was: either none is asked, or a fault is counted and
-- the 503 is the response.
--
-- What a response depends on, where no command was carried out: a 503, on the store and the memory of
-- the machine, and on nothing of the register; the refusal of an input, on the input alone, and on
-- how much of it each read gave; a printed order, on the record and the steps of the clearance that
-- the path names; the board, the network and a way back, on the whole register.
abbrev pub IsToldAt : Service → Option (List ℕ) → Option Command → Keeper → Keeper → Content
    → Type 0
IsToldAt service input (Some q) old new c = MayAskAt service input (Some q)
    × (c ≡ reply_response (Answer.reply (answer old.register q)))
    × (new.register ≡ after old.register q) × (new.faults ≡ old.faults)
IsToldAt service input None old new c = (new.register ≡ old.register)
    × ((MayAskAt service input None × (status_of c ≢ 503) × (new.faults ≡ old.faults))
    ⊎ ((c ≡ fault_response Unavailable) × CountsFault old new))

-- WHAT A CONNECTION CARRIES OUT: a command that it asks, or none; with its reply it is a run, from
-- the register before to the one after; and the reply is what went out, whole or in part, where
-- anything did
pub record CarriesAt (service : Service) (input : Option (List ℕ)) (old new : Keeper)
    (before behind : Stream) (result : Result Served HttpFault) : Type 0 where
  pub carried : Option Command
  pub told : List Reply
  pub run : IsRun old.register (with_asked carried []) told new.register
  pub asked : MayAskAt service input carried ⊎ (carried ≡ None)
  pub written : IsWritten (IsToldAt service input carried old new) before behind result

-- ---- at the plain service

abbrev pub IsTold : Option (List ℕ) → Option Command → Keeper → Keeper → Content → Type 0
IsTold = IsToldAt plain

abbrev pub Carries : Option (List ℕ) → Keeper → Keeper → Stream → Stream → Result Served HttpFault
    → Type 0
Carries = CarriesAt plain
