-- What becomes of the connections of a port: each is answered from the register that the one before
-- left, and reported if it fails.
use Rattle.std.specs.Prelude.{◌≡◌, ◌⊎◌, ℕ, zero, suc, ◌+◌, Bool, true, false, List, [], ◌∷◌, ◌++◌}
use Rattle.std.specs.Prelude.{codes, decimal, Option, Result, Ok, Err}
use Rattle.std.specs.declared.io.ErrorKind.{ErrorKind}
use Rattle.std.specs.declared.io.ErrorKind.TheVariants.{OutOfMemory}
use Rattle.clr_stream.specs.Streams.{Sends, Stream}
use Rattle.clr_http.specs.Answered.{IsAnsweredAt, Source}
use Rattle.clr_http.specs.Puts.{PutsAt}
use Rattle.clr_http.specs.Served.{may_be_unread}
use Rattle.clr_http.specs.declared.options.Service.{Service}
use Rattle.clr_http.specs.declared.registrar.Registrar as registrar
use Rattle.clr_http.specs.declared.serve.HttpFault.{HttpFault}
use Rattle.clr_http.specs.declared.serve.HttpFault.TheVariants.{NoMemory, ReadFailed, WriteFailed}
use Rattle.clr_http.specs.declared.serve.Served.{Served}
use Rattle.clr_edge.specs.declared.loopback.Connection.{Connection}
use Rattle.clr_edge.specs.declared.loopback.Loopback as loopback
use Rattle.clr_commands.specs.declared.serve.Terms.{Terms}

-- why a connection got no response, or no whole one
abbrev pub http_fault_name : HttpFault → List ℕ
http_fault_name ReadFailed = codes "ReadFailed"
http_fault_name (WriteFailed count) = codes "WriteFailed"
http_fault_name NoMemory = codes "NoMemory"

-- why a connection was not accepted: memory ran out, or nothing could be read of it
abbrev pub accept_fault : ErrorKind → HttpFault
accept_fault OutOfMemory = NoMemory
accept_fault _ = ReadFailed

-- how many times in a row a connection is asked for: of a desk's it is not one that did not come
abbrev pub tries_of : Bool → ℕ
tries_of true = 8
tries_of false = 1

-- the line of a connection that failed; connections count from 1
abbrev pub connection_line : ℕ → HttpFault → List ℕ
connection_line number fault = (codes "connection " ++ decimal number)
    ++ (codes " " ++ (http_fault_name fault ++ 10 ∷ []))

-- what is reported of a connection: nothing, unless it failed
abbrev pub ReportsConnection : ℕ → Result Served HttpFault → Stream → Stream → Type 0
ReportsConnection number (Ok served) errors errors' = errors' ≡ errors
ReportsConnection number (Err fault) errors errors' =
    Sends errors errors' (connection_line number fault)

-- the same of the first connections, whatever came of each
unfoldable pub ReportsFirst : ℕ → Stream → Stream → Type 0
ReportsFirst zero errors errors' = errors' ≡ errors
ReportsFirst (suc n) errors errors' = (middle : Stream) × ReportsFirst n errors middle
    × ((served : Result Served HttpFault) × ReportsConnection (n + 1) served middle errors')

-- a desk's next connection could not be taken, and nothing else was done
abbrev pub MissesLast : {D E M L : Type 0} → (M → L → ℕ → ErrorKind → M → Type 0) → Bool → L
    → D → D → E → E → M → M → Type 0
MissesLast misses is_desk listener d d' e e' old new = (kind : ErrorKind)
    × misses old listener (tries_of is_desk) kind new × (is_desk ≡ true) × (d' ≡ d) × (e' ≡ e)

-- what is seen of a connection: its reader, and its writer
pub record Seen (R W : Type 0) : Type 0 where
  pub source : R → Source
  pub stream : W → Stream

abbrev pub seen : {R W : Type 0} → (R → Option (List ℕ)) → (R → ℕ) → (W → Stream) → Seen R W
seen remaining failures stream = record {
  source = λ reader. record { remaining = remaining reader; failures = failures reader };
  stream = stream;
}

-- A CONNECTION OF THIS NUMBER WAS ANSWERED by a service from a register, as its reader and its writer
-- show, and reported if that failed. It put at most the command that it asks, once, at its login
abbrev pub Serves : {D R W : Type 0} → registrar.Ghosts D → Seen R W → Service → ℕ → D → D
    → Connection R W → Connection R W → Stream → Stream → Type 0
Serves by seen service number d d' c c' errors errors' = (served : Result Served HttpFault)
    × IsAnsweredAt service (by.keeper d) (by.keeper d') (seen.source c.reader)
    (seen.source c'.reader) (seen.stream c.writer) (seen.stream c'.writer) served
    × PutsAt by.takes service (seen.source c.reader).remaining served d d'
    × ReportsConnection number served errors errors'

module _ {D M L R W : Type 0} (by : registrar.Ghosts D) (net : loopback.Ghosts M L R W)
    (seen : Seen R W) (terms : Terms) (listener : L) where
  -- a connection came to the listener, which has the deadline of the terms, was answered by their
  -- service, and was let go as that left it
  pub record Answers (number : ℕ) (d d' : D) (errors errors' : Stream) (old new : M)
      : Type 0 where
    pub connection : Connection R W
    pub answered : Connection R W
    pub middle : M
    pub came : net.comes old listener terms.deadline connection middle
    pub served : Serves by seen terms.service number d d' connection answered errors errors'
    pub left : net.hangs_up middle answered (may_be_unread served.0) new

  -- none could be taken, for a reason that is reported, and it goes on; but not at a desk
  abbrev pub Misses : ℕ → D → D → Stream → Stream → M → M → Type 0
  Misses number d d' errors errors' old new =
      (kind : ErrorKind) × net.misses old listener (tries_of terms.service.desk) kind new × (d' ≡ d)
      × ReportsConnection number (Err (accept_fault kind)) errors errors'
      × (terms.service.desk ≡ false)

  -- THE NEXT CONNECTION was answered, or none could be taken
  abbrev pub TakesNext : ℕ → D → D → Stream → Stream → M → M → Type 0
  TakesNext number d d' errors errors' old new =
      Answers number d d' errors errors' old new ⊎ Misses number d d' errors errors' old new

  -- THE FIRST CONNECTIONS, one after the other. None of them left it in doubt whether a change was
  -- kept
  unfoldable pub TakesFirst : ℕ → D → D → Stream → Stream → M → M → Type 0
  TakesFirst zero d d' errors errors' old new = (new ≡ old) × (d' ≡ d) × (errors' ≡ errors)
  TakesFirst (suc n) d d' errors errors' old new =
      (middle : M) × (between : D) × (reported : Stream)
      × TakesFirst n d between errors reported old middle
      × TakesNext (n + 1) between d' reported errors' middle new × (by.doubts d' ≡ false)

  -- A SERVER OF A DESK ENDED after this number of connections: the next could not be taken
  pub record EndsAfter (n : ℕ) (d d' : D) (errors errors' : Stream) (old new : M) : Type 0 where
    pub middle : M
    pub taken : TakesFirst n d d' errors errors' old middle
    pub kind : ErrorKind
    pub missed : net.misses middle listener (tries_of terms.service.desk) kind new
    pub desk : terms.service.desk ≡ true

  -- A SERVER ENDED IN DOUBT, after one connection more than this number: whether a change of it was
  -- kept is not known before the register is opened again
  pub record EndsInDoubt (n : ℕ) (d d' : D) (errors errors' : Stream) (old new : M) : Type 0 where
    pub between : D
    pub reported : Stream
    pub middle : M
    pub taken : TakesFirst n d between errors reported old middle
    pub last : TakesNext (n + 1) between d' reported errors' middle new
    pub doubt : by.doubts d' ≡ true
