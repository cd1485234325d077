-- One who keeps a register and counts its faults, and what one turn of the service comes to.
use Rattle.std.specs.Prelude.{◌≡◌, ◌≢◌, ◌⊎◌, ℕ, Option, None, Some, Result, Ok, Err}
use Rattle.std.specs.declared.alloc.AllocError.{AllocError}
use Rattle.clr_stream.specs.Failures.{one_more}
use Rattle.clr_rules.specs.Register.{Register}
use Rattle.clr_http.specs.Respond.{Outcome}
use Rattle.clr_http.specs.Response.{Content, content_of, fault_response, status_of}
use Rattle.clr_http.specs.declared.response.Fault.TheVariants.{Unavailable}
use Rattle.clr_http.specs.declared.response.Response.{Response}
use Rattle.clr_http.specs.declared.response.Response.TheVariants as made

-- what is kept: the register, and how many commands were not answered
pub record Keeper : Type 0 where
  pub register : Register
  pub faults : ℕ

-- the count of faults after a command: one more where it was not answered
abbrev pub faults_after : {T : Type 0} → Option T → ℕ → ℕ
faults_after None faults = one_more faults
faults_after (Some reply) faults = faults

-- one fault more is counted, and the register stays as it was
abbrev pub CountsFault : Keeper → Keeper → Type 0
CountsFault old new = (new.register ≡ old.register) × (new.faults ≡ one_more old.faults)

-- A TURN: the outcome, and no fault; or a fault is counted, the response says so, and the register
-- stays as it was
abbrev pub IsTurn : Outcome → Keeper → Keeper → Content → Type 0
IsTurn o old new c =
    ((c ≡ o.response) × (new.register ≡ o.left) × (new.faults ≡ old.faults))
    ⊎ ((c ≡ fault_response Unavailable) × CountsFault old new)

-- a turn whose response was made, or for which memory ran out
abbrev pub IsTurned : Outcome → Keeper → Keeper → Result Response AllocError → Type 0
IsTurned o old new (Ok response) = IsTurn o old new (content_of response)
IsTurned o old new (Err e) = (new.register ≡ old.register) ⊎ (new.register ≡ o.left)

-- What holds of every turn, whatever the register: a 503 reports a fault that was counted in this
-- turn, and after any other response none was.
abbrev pub Accounts : Keeper → Keeper → Content → Type 0
Accounts old new c = ((status_of c ≢ 503) × (new.faults ≡ old.faults))
    ⊎ ((c ≡ fault_response Unavailable) × CountsFault old new)

-- The same of a turn whose response was made, or for which memory ran out. A fault that was counted
-- is reported by the response that takes no memory: so want of memory comes only where none was.
abbrev pub AccountsFor : Keeper → Keeper → Result Response AllocError → Type 0
AccountsFor old new (Ok response) =
    ((status_of (content_of response) ≢ 503) × (new.faults ≡ old.faults))
    ⊎ ((response ≡ made.Unavailable) × CountsFault old new)
AccountsFor old new (Err e) = new.faults ≡ old.faults
