-- THE REQUEST: what the head and the bytes after it ask for, or how they are refused. The checks
-- are in their order: route, method, whether a page of elsewhere may have sent it, length, the whole
-- body, and in whose name a command is.
use Rattle.std.specs.Prelude.{◌≡◌, ◌≢◌, ◌⊎◌, ℕ, ◌&&◌, nat_eq, nat_le, if◌then◌else◌, List, [], length}
use Rattle.std.specs.Prelude.{take, Option, Some, None, Result, Ok, Err}
use Rattle.std.specs.Cmp.Lexicographic.{pointwise}
use Rattle.httparse.specs.Grammar.{RequestHead}
use Rattle.std.specs.Io.KnownBytes.{Consumes}
use Rattle.clr_http.specs.Callers.{caller_checked, login_of}
use Rattle.clr_http.specs.Fields.{fields_of}
use Rattle.clr_http.specs.Foreign.{is_foreign}
use Rattle.clr_http.specs.Head.{BeginsWith, Explains, HasHead}
use Rattle.clr_http.specs.Length.{body_length}
use Rattle.clr_http.specs.Options.{plain}
use Rattle.clr_http.specs.Response.{allow, content_of, fault_response, method_word}
use Rattle.clr_http.specs.Response.{status_of}
use Rattle.clr_http.specs.Target.{target_of}
use Rattle.clr_http.specs.declared.head.HeadFault.{HeadFault}
use Rattle.clr_http.specs.declared.length.LengthFault.{LengthFault}
use Rattle.clr_http.specs.declared.options.Service.{Service}
use Rattle.clr_http.specs.declared.request.Heard.{Heard}
use Rattle.clr_http.specs.declared.request.Request.{Request}
use Rattle.clr_http.specs.declared.response.Fault.{Fault}
use Rattle.clr_http.specs.declared.response.Method.{Method}
use Rattle.clr_http.specs.declared.response.Method.TheVariants.{Get, Post}
use Rattle.clr_http.specs.declared.target.Target.{Target}
use Rattle.clr_http.specs.declared.target.Target.TheVariants.{Command, Clearance, Order, Board}
use Rattle.clr_http.specs.declared.target.Target.TheVariants.{Network, WayBack}
use Rattle.clr_http.specs.declared.head.HeadFault.TheVariants as head_fault
use Rattle.clr_http.specs.declared.length.LengthFault.TheVariants as length_fault
use Rattle.clr_http.specs.declared.request.Request.TheVariants as made
use Rattle.clr_http.specs.declared.response.Fault.TheVariants as fault
pub use Rattle.clr_http.specs.Reading.{Reading, asks, refused}

-- the method of a route
abbrev pub method_of : Target → Method
method_of Command = Post
method_of (Clearance viewing) = Get
method_of (Order printing) = Get
method_of Board = Get
method_of Network = Get
method_of (WayBack id) = Get

abbrev pub fault_of_length : LengthFault → Fault
fault_of_length length_fault.NoLength = fault.NoLength
fault_of_length length_fault.BadLength = fault.BadLength
fault_of_length length_fault.BodyTooLarge = fault.BodyTooLarge

-- a command, by the length of its body and the bytes after the head
abbrev pub command_read : Result ℕ LengthFault → List ℕ → Reading
command_read (Err e) rest = refused (fault_response (fault_of_length e))
command_read (Ok n) rest = if nat_le n (length rest) then asks Command (take n rest)
    else refused (fault_response fault.BodyCut)

-- a request with the method of its route
abbrev pub body_read : Target → RequestHead → List ℕ → Reading
body_read Command head rest = command_read (body_length (fields_of head)) rest
body_read (Clearance viewing) head rest = asks (Clearance viewing) []
body_read (Order printing) head rest = asks (Order printing) []
body_read Board head rest = asks Board []
body_read Network head rest = asks Network []
body_read (WayBack id) head rest = asks (WayBack id) []

-- a request to a desk that a page of elsewhere may have sent is refused, whatever its route
abbrev pub own_read : Service → Target → RequestHead → List ℕ → Reading
own_read service asked head rest =
    if service.desk && is_foreign (fields_of head) then refused (fault_response fault.Foreign)
    else body_read asked head rest

abbrev pub route_read : Service → Option Target → RequestHead → List ℕ → Reading
route_read service None head rest = refused (fault_response fault.NoRoute)
route_read service (Some asked) head rest =
    if pointwise nat_eq head.method (method_word (method_of asked))
    then own_read service asked head rest else refused (allow (method_of asked))

-- what a request comes to before its caller is checked
abbrev pub head_read : Service → RequestHead → List ℕ → Reading
head_read service head rest = route_read service (target_of service.desk head.target) head rest

-- WHAT A REQUEST COMES TO at a service
abbrev pub request_read_at : Service → RequestHead → List ℕ → Reading
request_read_at service head rest =
    caller_checked service.logins (login_of (fields_of head)) (head_read service head rest)

abbrev pub request_read : RequestHead → List ℕ → Reading
request_read = request_read_at plain

-- what a request that was read comes to
abbrev pub reading : Request → Reading
reading (made.Refused response) = refused (content_of response)
reading (made.Asks asked body) = asks asked body.items

-- what a request comes to that was read, with the login of its head
abbrev pub heard : Service → Heard → Reading
heard service h = caller_checked service.logins h.login (reading h.request)

-- a refusal that is no 503, or what is asked for
abbrev pub IsNo503 : Reading → Type 0
IsNo503 (refused c) = status_of c ≢ 503
IsNo503 (asks asked body) = Unit {0}

-- what a fault of the head comes to, where the bytes bear it
abbrev pub refusal_of : HeadFault → Option Reading
refusal_of head_fault.BadHead = Some (refused (fault_response fault.BadHead))
refusal_of head_fault.HeadTooLarge = Some (refused (fault_response fault.HeadTooLarge))
refusal_of head_fault.HeadCut = Some (refused (fault_response fault.HeadCut))
refusal_of head_fault.ReadFailed = None
refusal_of head_fault.NoMemory = None

-- the refusal of an input, by a fault that the bytes taken from it explain
abbrev pub IsRefusedHead : Option (List ℕ) → Option (List ℕ) → Reading → Type 0
IsRefusedHead known left reading =
    (taken : List ℕ) × Consumes known left taken × (e : HeadFault) × (refusal_of e ≡ Some reading)
    × Explains e taken left

-- WHAT A KNOWN INPUT IS READ AS: what its head and the bytes after it ask for; or, where it begins
-- with no head, a refusal
abbrev pub IsReading : Service → List ℕ → Option (List ℕ) → Reading → Type 0
IsReading service input left reading =
    ((head : RequestHead) × (rest : List ℕ) × BeginsWith input head rest
    × (reading ≡ request_read_at service head rest))
    ⊎ (¬ (HasHead (Some input)) × IsRefusedHead (Some input) left reading)

-- the same of a request that was read; none is where the input is empty
abbrev pub IsReadAs : Service → List ℕ → Option (List ℕ) → Option Heard → Type 0
IsReadAs service input left None = input ≡ []
IsReadAs service input left (Some h) = IsReading service input left (heard service h)
