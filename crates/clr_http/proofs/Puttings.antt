-- What a connection puts to its register, by what was read and how it was answered.
use Rattle.std.proofs.Common.{◌≡◌, ℕ, Bool, true, false, if◌then◌else◌, List, Option, None, Some, ap, inl, inr, refl, sym, subst}
use Rattle.std.specs.Prelude.{Result, IfSome}
use Rattle.std.specs.Io.KnownBytes.{IsAtEnd}
use Rattle.httparse.specs.Grammar.{RequestHead}
use Rattle.clr_staff.specs.declared.logins.LoginRow.{LoginRow}
use Rattle.clr_rules.specs.declared.command.Command.{Command}
use Rattle.clr_http.proofs.Requests.{at_end, no_head}
use Rattle.clr_http.proofs.RequestRuns.{reading_may_ask}
use Rattle.clr_http.specs.Asked.{MayAskAt, reading_asks, target_asks}
use Rattle.clr_http.specs.Callers.{caller_checked, login_of, may_ask, permitted}
use Rattle.clr_http.specs.Fields.{fields_of}
use Rattle.clr_http.specs.Head.{BeginsWith}
use Rattle.clr_http.specs.Puts.{GivesAt, IsUnmade, Putting, PutsAsked, PutsAt, login_noted}
use Rattle.clr_http.specs.Request.{IsReading, Reading, asks, refused}
use Rattle.clr_http.specs.Response.{fault_response}
use Rattle.clr_http.specs.declared.options.Service.{Service}
use Rattle.clr_http.specs.declared.response.Fault.TheVariants.{NotCaller}
use Rattle.clr_http.specs.declared.serve.HttpFault.{HttpFault}
use Rattle.clr_http.specs.declared.serve.Served.{Served}
use Rattle.clr_http.specs.declared.target.Target.{Target}

-- what a request asks once its caller is checked is what its login may ask of it
checked_asks : (logins : Option (List LoginRow)) (login : Option (List ℕ)) (reading : Reading)
    → permitted logins login (reading_asks reading) ≡ reading_asks (caller_checked logins login reading)
checked_asks logins login reading = by (may_ask logins login (reading_asks reading))
  where
    by : (may : Bool) → (if may then reading_asks reading else None) ≡ reading_asks (if may then reading else refused (fault_response NotCaller))
    by true = refl
    by false = refl

-- an input that ended before its first byte asks nothing
pub end_asks_none : (service : Service) (known : Option (List ℕ)) → IsAtEnd known → MayAskAt service known None
end_asks_none service None end = tt
end_asks_none service (Some input) end = inr (λ has. no_head input (at_end (Some input) input refl end) has, refl)

-- the command that is asked is given at the login of its head
given_at : (service : Service) (known : Option (List ℕ)) (login : Option (List ℕ)) (q : Command)
    → ((input rest : List ℕ) (head : RequestHead) → known ≡ Some input → BeginsWith input head rest → login ≡ login_of (fields_of head))
    → MayAskAt service known (Some q) → IfSome known (λ bytes. GivesAt service bytes (login_noted service.desk login) q)
given_at service None login q is asked = tt
given_at service (Some input) login q is (inl (head, rest, b, e)) = (head, rest, b, ap (login_noted service.desk) (is input rest head refl b), e)
given_at service (Some input) login q is (inr (none, e)) = absurd (cc e)

module _ {D : Type 0} (takes : Putting D) where
  -- where nothing is permitted, nothing is put
  pub unpermitted_same : (logins : Option (List LoginRow)) (login at : Option (List ℕ)) (asked : Option Command) (reason : Type 0) (old new : D)
      → may_ask logins login asked ≡ false → PutsAsked takes at (permitted logins login asked) reason old new → new ≡ old
  unpermitted_same logins login at asked reason old new not put =
      subst (λ (may : Bool). PutsAsked takes at (if may then asked else None) reason old new) not put

  -- a request that was read, whatever came of it
  pub asked_puts : (service : Service) (known left : Option (List ℕ)) (result : Result Served HttpFault) (login : Option (List ℕ)) (a : Target)
      (body : List ℕ) (reason : Type 0) (old new : D)
      → ((input : List ℕ) → known ≡ Some input → IsReading service input left (caller_checked service.logins login (asks a body)))
      → ((input rest : List ℕ) (head : RequestHead) → known ≡ Some input → BeginsWith input head rest → login ≡ login_of (fields_of head))
      → (reason → IsUnmade result)
      → PutsAsked takes (login_noted service.desk login) (permitted service.logins login (target_asks a body)) reason old new
      → PutsAt takes service known result old new
  asked_puts service known left result login a body reason old new reads is unmade put =
      by (permitted service.logins login (target_asks a body)) (checked_asks service.logins login (asks a body)) put
    where
      here : MayAskAt service known (reading_asks (caller_checked service.logins login (asks a body)))
      here = reading_may_ask service known left (caller_checked service.logins login (asks a body)) reads

      by : (asked : Option Command) → asked ≡ reading_asks (caller_checked service.logins login (asks a body))
          → PutsAsked takes (login_noted service.desk login) asked reason old new → PutsAt takes service known result old new
      by None e same = inr (inl (subst (MayAskAt service known) (sym e) here), same)
      by (Some q) e (inl once) = inl (
        login_noted service.desk login,
        q,
        given_at service known login q is (subst (MayAskAt service known) (sym e) here),
        once,
      )
      by (Some q) e (inr (why, same)) = inr (inr (unmade why), same)
