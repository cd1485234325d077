-- What went out to a connection, by what was read and how it was answered.
use Rattle.std.proofs.Common.{◌≡◌, ℕ, ap, arith, inl, inr, refl, sym, subst, ◌≢◌, ◌⊎◌, Result, Ok, Err}
use Rattle.clr_stream.specs.Failures.{Rose, one_more}
use Rattle.clr_stream.specs.Streams.{Stream}
use Rattle.clr_http.proofs.Turns.{IsLeft, turn_leaves}
use Rattle.clr_http.specs.Registrar.{Accounts, AccountsFor, CountsFault, IsTurn, Keeper}
use Rattle.clr_http.specs.Request.{IsNo503, refused}
use Rattle.clr_http.specs.Respond.{Outcome, unchanged}
use Rattle.clr_http.specs.Response.{Content, content_of, status_of}
use Rattle.clr_http.specs.Served.{IsConnection, IsServed, IsWritten, http_fault_of}
use Rattle.clr_http.specs.declared.request.ReadFault.{ReadFault}
use Rattle.clr_http.specs.declared.response.Response.{Response}
use Rattle.clr_http.specs.declared.serve.HttpFault.{HttpFault}
use Rattle.clr_http.specs.declared.serve.HttpFault.TheVariants.{NoMemory, ReadFailed, WriteFailed}
use Rattle.clr_http.specs.declared.serve.Served.{Served}
use Rattle.clr_http.specs.declared.serve.Served.TheVariants.{Answered, Nothing}
use Rattle.clr_http.specs.declared.response.Response.TheVariants as made
use Rattle.clr_http.specs.declared.request.ReadFault.TheVariants as read

-- what went out is of a wider kind too
pub wider : (kind other : Content → Type 0) (before behind : Stream) (result : Result Served HttpFault)
    → ((c : Content) → kind c → other c) → IsWritten kind before behind result → IsWritten other before behind result
wider kind other before behind (Ok Nothing) f w = w
wider kind other before behind (Ok (Answered status)) f (c, k, same, out) = (c, f c k, same, out)
wider kind other before behind (Err ReadFailed) f w = w
wider kind other before behind (Err (WriteFailed count)) f (c, k, part) = (c, f c k, part)
wider kind other before behind (Err NoMemory) f w = w

-- a response of a kind, and of one alone
pub of_kind : (kind : Content → Type 0) (c : Content) (before behind : Stream) (result : Result Served HttpFault)
    → kind c → IsWritten (λ x. x ≡ c) before behind result → IsWritten kind before behind result
of_kind kind c before behind result k w = wider (λ x. x ≡ c) kind before behind result (λ x same. subst kind (sym same) k) w

-- a request that was refused
pub refused_served : (o : Outcome) (k : Keeper) (before behind : Stream) (result : Result Served HttpFault) (c : Content)
    → o ≡ unchanged k.register c → IsWritten (λ x. x ≡ c) before behind result → result ≢ Ok Nothing → IsServed o k k before behind result
refused_served o k before behind result c e w some = record {
  written = of_kind (IsTurn o k k) c before behind result (inl (rw e refl, rw e refl, refl)) w;
  some = some;
  left = inl refl;
}

-- one that was answered
pub answered_served : (o : Outcome) (old new : Keeper) (before behind : Stream) (result : Result Served HttpFault) (c : Content)
    → IsTurn o old new c → IsWritten (λ x. x ≡ c) before behind result → result ≢ Ok Nothing → IsServed o old new before behind result
answered_served o old new before behind result c turn w some = record {
  written = of_kind (IsTurn o old new) c before behind result turn w;
  some = some;
  left = turn_leaves o old new c turn;
}

-- the outcome in other words
pub served_as : (o other : Outcome) (old new : Keeper) (before behind : Stream) (result : Result Served HttpFault)
    → o ≡ other → IsServed other old new before behind result → IsServed o old new before behind result
served_as o other old new before behind result e s =
    subst (λ (x : Outcome). IsServed x old new before behind result) (sym e) s

-- one for whose response memory ran out
pub unmade_served : (o : Outcome) (old new : Keeper) (stream : Stream) (result : Result Served HttpFault)
    → result ≡ Err NoMemory → IsLeft o old.register new.register → IsServed o old new stream stream result
unmade_served o old new stream result e left =
    let none : IsServed o old new stream stream (Err NoMemory) =
    record { written = refl; some = λ x. cc x; left = left } in
    subst (λ (r : Result Served HttpFault). IsServed o old new stream stream r) (sym e) none

-- one more has risen
rose_once : (n : ℕ) → Rose n (one_more n)
rose_once n = grind arith

-- a 503 reports a fault that was counted
counted_503 : (old new : Keeper) (c : Content) → Accounts old new c → 503 ≡ status_of c → Rose old.faults new.faults
counted_503 old new c (inl (other, same)) e = absurd (other (sym e))
counted_503 old new c (inr (is, counts)) e = rw counts.1 (rose_once old.faults)

-- one fault is counted at most
counted_once : (old new : Keeper) (c : Content) → Accounts old new c → (new.faults ≡ old.faults) ⊎ CountsFault old new
counted_once old new c (inl (other, same)) = inl same
counted_once old new c (inr (is, counts)) = inr counts

-- a response that was made, by what it carries
accounts_of : (old new : Keeper) (r : Response) → AccountsFor old new (Ok r) → Accounts old new (content_of r)
accounts_of old new r (inl plain) = inl plain
accounts_of old new r (inr (is, counts)) = inr (ap content_of is, counts)

-- after one that takes memory no fault was counted
uncounted : (old new : Keeper) (r : Response) (result : Result Served HttpFault) → AccountsFor old new (Ok r)
    → (r ≡ made.Unavailable → result ≢ Err NoMemory) → result ≡ Err NoMemory → new.faults ≡ old.faults
uncounted old new r result (inl plain) fixed e = plain.1
uncounted old new r result (inr (is, counts)) fixed e = absurd (fixed is e)

-- a connection whose response was made
pub connection : (old new : Keeper) (before behind : Stream) (result : Result Served HttpFault) (r : Response)
    → AccountsFor old new (Ok r) → (r ≡ made.Unavailable → result ≢ Err NoMemory)
    → IsWritten (λ x. x ≡ content_of r) before behind result → IsConnection old new before behind result
connection old new before behind result r accounts fixed w = record {
  written = out;
  counted = counted_once old new (content_of r) told;
  unavailable = λ e. rises (subst (IsWritten (Accounts old new) before behind) e out);
  unmade = uncounted old new r result accounts fixed;
}
  where
    told : Accounts old new (content_of r)
    told = accounts_of old new r accounts

    out : IsWritten (Accounts old new) before behind result
    out = of_kind (Accounts old new) (content_of r) before behind result told w

    rises : IsWritten (Accounts old new) before behind (Ok (Answered 503)) → Rose old.faults new.faults
    rises (x, k, same, whole) = counted_503 old new x k same

-- a refusal counts no fault
pub refusal_accounts : (k : Keeper) (r : Response) → IsNo503 (refused (content_of r)) → AccountsFor k k (Ok r)
refusal_accounts k r other = inl (other, refl)

-- one whose request was not read
pub unread_connection : (k : Keeper) (stream : Stream) (result : Result Served HttpFault) (fault : ReadFault)
    → result ≡ Err (http_fault_of fault) → IsConnection k k stream stream result
unread_connection k stream result fault e = subst (IsConnection k k stream stream) (sym e) (none fault)
  where
    none : (fault : ReadFault) → IsConnection k k stream stream (Err (http_fault_of fault))
    none read.ReadFailed = record { written = refl; counted = inl refl; unavailable = λ x. cc x; unmade = λ x. refl }
    none read.NoMemory = record { written = refl; counted = inl refl; unavailable = λ x. cc x; unmade = λ x. refl }

-- one that ended before its first byte
pub empty_connection : (k : Keeper) (stream : Stream) → IsConnection k k stream stream (Ok Nothing)
empty_connection k stream = record { written = refl; counted = inl refl; unavailable = λ x. cc x; unmade = λ x. refl }

-- one for whose response memory ran out
pub unmade_connection : (old new : Keeper) (stream : Stream) (result : Result Served HttpFault)
    → result ≡ Err NoMemory → new.faults ≡ old.faults → IsConnection old new stream stream result
unmade_connection old new stream result e same =
    let none : IsConnection old new stream stream (Err NoMemory) =
    record { written = refl; counted = inl same; unavailable = λ x. cc x; unmade = λ x. same } in
    subst (IsConnection old new stream stream) (sym e) none
