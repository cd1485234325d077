-- WHAT `serve_request` SAYS OF A CONNECTION, by what is seen of its reader and its writer.
use Rattle.std.specs.Prelude.{◌≡◌, ◌+◌, ℕ, List, [], Option, Some, Result, Ok, Err, IfOk}
use Rattle.std.specs.Io.KnownBytes.{IsAtEnd}
use Rattle.httparse.specs.Grammar.{RequestHead}
use Rattle.clr_stream.specs.Failures.{Rose}
use Rattle.clr_stream.specs.Streams.{Stream}
use Rattle.clr_stream.specs.Whole.{TakesAtMost}
use Rattle.clr_rules.specs.Good.{IsGood}
use Rattle.clr_rules.specs.Run.{IsReached}
use Rattle.clr_http.specs.Carried.{CarriesAt}
use Rattle.clr_http.specs.Head.{BeginsWith, HasHead}
use Rattle.clr_http.specs.Options.{plain}
use Rattle.clr_http.specs.Registrar.{Keeper}
use Rattle.clr_http.specs.Respond.{respond_at}
use Rattle.clr_http.specs.Served.{IsConnection, IsRefusal, IsServed, IsWritten}
use Rattle.clr_http.specs.declared.options.Service.{Service}
use Rattle.clr_http.specs.declared.serve.HttpFault.{HttpFault}
use Rattle.clr_http.specs.declared.serve.HttpFault.TheVariants.{NoMemory, ReadFailed}
use Rattle.clr_http.specs.declared.serve.Served.{Served}
use Rattle.clr_http.specs.declared.serve.Served.TheVariants.{Nothing}

-- what is seen of a reader: what is left to read, where that is known, and how many reads failed
pub record Source : Type 0 where
  pub remaining : Option (List ℕ)
  pub failures : ℕ

-- A CONNECTION WAS ANSWERED by a service at the keeper of a register, with this result: as its request
-- asks, where that is known and the register good; and as every connection is, whatever its input.
-- No more bytes of it are taken than a head of 8,192 and a body of 65,536 have
pub record IsAnsweredAt (service : Service) (old new : Keeper) (input left : Source)
    (before behind : Stream) (result : Result Served HttpFault) : Type 0 where
  pub served : (bytes rest : List ℕ) (head : RequestHead) → input.remaining ≡ Some bytes
      → BeginsWith bytes head rest → IsGood old.register
      → IsServed (respond_at service old.register head rest) old new before behind result
  pub refused : (bytes : List ℕ) → input.remaining ≡ Some bytes → ¬ (HasHead (Some bytes))
      → IsWritten (IsRefusal bytes left.remaining) before behind result × (new ≡ old)
  pub carries : IsGood old.register → CarriesAt service input.remaining old new before behind result
  pub always : IsConnection old new before behind result
  pub bounded : TakesAtMost (8192 + 65536) input.remaining left.remaining
  pub nothing : result ≡ Ok Nothing
      → IsAtEnd input.remaining × (behind ≡ before) × (new ≡ old)
  pub empty : input.remaining ≡ Some [] → IfOk result (λ served. served ≡ Nothing)
  pub unread : result ≡ Err ReadFailed
      → Rose input.failures left.failures × (behind ≡ before) × (new ≡ old)
  pub unmade : result ≡ Err NoMemory → behind ≡ before
  pub good : IsGood old.register → IsGood new.register
  pub reached : IsReached old.register → IsReached new.register

-- at the plain service
abbrev pub IsAnswered : Keeper → Keeper → Source → Source → Stream → Stream
    → Result Served HttpFault → Type 0
IsAnswered = IsAnsweredAt plain
