-- WHAT SERVING ONE CONNECTION COMES TO: what went out, and the register after it.
use Rattle.std.specs.Prelude.{◌≡◌, ◌≢◌, ◌⊎◌, ◌||◌, ℕ, Bool, false, nat_eq, List, Option, Some, Result, Ok, Err}
use Rattle.clr_stream.specs.Failures.{Rose}
use Rattle.clr_stream.specs.Streams.{Stream, WroteAll, WrotePart}
use Rattle.clr_http.specs.Registrar.{Accounts, CountsFault, IsTurn, Keeper}
use Rattle.clr_http.specs.Request.{IsRefusedHead, refused}
use Rattle.clr_http.specs.Respond.{Outcome}
use Rattle.clr_http.specs.Response.{Content, response_bytes, status_of}
use Rattle.clr_http.specs.declared.request.ReadFault.{ReadFault}
use Rattle.clr_http.specs.declared.request.ReadFault.TheVariants as read
use Rattle.clr_http.specs.declared.serve.HttpFault.{HttpFault}
use Rattle.clr_http.specs.declared.serve.HttpFault.TheVariants.{NoMemory, ReadFailed, WriteFailed}
use Rattle.clr_http.specs.declared.serve.Served.{Served}
use Rattle.clr_http.specs.declared.serve.Served.TheVariants.{Answered, Nothing}

-- what went out: the whole of a response of this kind; its first bytes, and then the writer failed;
-- or nothing, and the writer is as it was
abbrev pub IsWritten : (Content → Type 0) → Stream → Stream → Result Served HttpFault → Type 0
IsWritten kind before behind (Ok Nothing) = behind ≡ before
IsWritten kind before behind (Ok (Answered status)) = (c : Content) × kind c
    × (status ≡ status_of c) × WroteAll (response_bytes c) before behind
IsWritten kind before behind (Err ReadFailed) = behind ≡ before
IsWritten kind before behind (Err (WriteFailed count)) = (c : Content) × kind c
    × WrotePart count (response_bytes c) before behind
IsWritten kind before behind (Err NoMemory) = behind ≡ before

-- a connection whose request has this outcome: its response went out, whole or in part, or none was
-- made
pub record IsServed (o : Outcome) (old new : Keeper) (before behind : Stream)
    (result : Result Served HttpFault) : Type 0 where
  pub written : IsWritten (IsTurn o old new) before behind result
  pub some : result ≢ Ok Nothing
  pub left : (new.register ≡ old.register) ⊎ (new.register ≡ o.left)

-- WHAT EVERY CONNECTION COMES TO, whatever its input and the register: a response went out, whole
-- or in part, or nothing did; one fault is counted at most, and then the register is as it was; a
-- 503 goes out only where one was; and one that was is said by the 503, whole or in part, since out
-- of memory comes only where none was.
pub record IsConnection (old new : Keeper) (before behind : Stream)
    (result : Result Served HttpFault) : Type 0 where
  pub written : IsWritten (Accounts old new) before behind result
  pub counted : (new.faults ≡ old.faults) ⊎ CountsFault old new
  pub unavailable : result ≡ Ok (Answered 503) → Rose old.faults new.faults
  pub unmade : result ≡ Err NoMemory → new.faults ≡ old.faults

-- the response to an input that begins with no head: a refusal that the bytes taken from it explain
abbrev pub IsRefusal : List ℕ → Option (List ℕ) → Content → Type 0
IsRefusal input left c = IsRefusedHead (Some input) left (refused c)

-- the fault of a connection whose request was not read
abbrev pub http_fault_of : ReadFault → HttpFault
http_fault_of read.ReadFailed = ReadFailed
http_fault_of read.NoMemory = NoMemory

-- the statuses by which a request may be refused before it was read whole
abbrev pub refuses_unread : ℕ → Bool
refuses_unread status = nat_eq status 400 || nat_eq status 403 || nat_eq status 404
    || nat_eq status 405 || nat_eq status 411 || nat_eq status 413

-- MORE OF A REQUEST MAY COME after its response, which refuses it by its head
abbrev pub may_be_unread : Result Served HttpFault → Bool
may_be_unread (Ok Nothing) = false
may_be_unread (Ok (Answered status)) = refuses_unread status
may_be_unread (Err fault) = false
