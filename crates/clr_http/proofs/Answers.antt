-- A connection as it was answered, by what was read of it and how that was answered.
use Rattle.std.proofs.Common.{◌≡◌, ◌≢◌, ◌+◌, ℕ, Bool, true, false, if◌then◌else◌, Option, List, [], None, Some, ap, inl, refl, sym, subst, Result, Ok, Err}
use Rattle.std.specs.Io.KnownBytes.{IsAtEnd}
use Rattle.clr_stream.specs.Failures.{Rose}
use Rattle.clr_stream.specs.Streams.{Stream}
use Rattle.clr_stream.specs.Whole.{TakesAtMost}
use Rattle.clr_rules.proofs.Common.{IsGood, Register}
use Rattle.clr_rules.proofs.keeps.EveryKind.{reached_are_good}
use Rattle.clr_http.proofs.Connections.{answered_served, connection, empty_connection, of_kind, refusal_accounts, refused_served, served_as, unmade_connection, unmade_served, unread_connection}
use Rattle.clr_http.proofs.RequestRuns.{none_of, reading_may_ask, turn_carries, unmade_carries}
use Rattle.clr_http.proofs.Requests.{asks_unrefused, at_end, no_head, reading_is, refusal_is}
use Rattle.clr_http.proofs.Turns.{IsLeft, stays_good, stays_reached, turn_leaves}
use Rattle.clr_staff.specs.declared.logins.LoginRow.{LoginRow}
use Rattle.clr_http.specs.Answered.{IsAnsweredAt, Source}
use Rattle.clr_http.specs.Callers.{caller_checked, may_ask}
use Rattle.clr_http.specs.Carried.{IsToldAt}
use Rattle.clr_http.specs.Registrar.{AccountsFor, IsTurn, Keeper}
use Rattle.clr_http.specs.Request.{IsNo503, IsReading, asks, refused}
use Rattle.clr_http.specs.Reading.{target_asks}
use Rattle.clr_http.specs.Respond.{Outcome, checked_outcome, reading_outcome, respond_at, target_outcome, unchanged}
use Rattle.clr_http.specs.Response.{content_of, fault_response}
use Rattle.clr_http.specs.Served.{IsRefusal, IsWritten, http_fault_of}
use Rattle.clr_http.specs.declared.options.Service.{Service}
use Rattle.clr_http.specs.declared.request.ReadFault.{ReadFault}
use Rattle.clr_http.specs.declared.response.Fault.TheVariants.{NotCaller}
use Rattle.clr_http.specs.declared.response.Response.{Response}
use Rattle.clr_http.specs.declared.serve.HttpFault.{HttpFault}
use Rattle.clr_http.specs.declared.serve.HttpFault.TheVariants.{NoMemory, ReadFailed}
use Rattle.clr_http.specs.declared.serve.Served.{Served}
use Rattle.clr_http.specs.declared.serve.Served.TheVariants.{Nothing}
use Rattle.clr_http.specs.declared.target.Target.{Target}
use Rattle.clr_http.specs.declared.request.ReadFault.TheVariants as read
use Rattle.clr_http.specs.declared.response.Response.TheVariants as made

-- what is answered to a reading whose caller was checked
outcome_of : (logins : Option (List LoginRow)) (login : Option (List ℕ)) (R : Register) (a : Target) (body : List ℕ)
    → reading_outcome R (caller_checked logins login (asks a body)) ≡ checked_outcome logins login R a body
outcome_of logins login R a body = by (may_ask logins login (target_asks a body))
  where
    by : (may : Bool) → reading_outcome R (if may then asks a body else refused (fault_response NotCaller))
        ≡ (if may then target_outcome R a body else unchanged R (fault_response NotCaller))
    by true = refl
    by false = refl

-- one whose request was not read
pub unread_answered : (service : Service) (k : Keeper) (input left : Source) (stream : Stream) (result : Result Served HttpFault) (fault : ReadFault)
    → TakesAtMost (8192 + 65536) input.remaining left.remaining
    → result ≡ Err (http_fault_of fault) → (fault ≡ read.ReadFailed → Rose input.failures left.failures)
    → IsAnsweredAt service k k input left stream stream result
unread_answered service k input left stream result fault bounded e rose =
    subst (IsAnsweredAt service k k input left stream stream) (sym e) (none fault rose)
  where
    none : (fault : ReadFault) → (fault ≡ read.ReadFailed → Rose input.failures left.failures)
        → IsAnsweredAt service k k input left stream stream (Err (http_fault_of fault))
    none read.ReadFailed rose = record {
      served = λ bytes rest head known b good. record { written = refl; some = λ x. cc x; left = inl refl };
      refused = λ bytes known none. (refl, refl);
      carries = λ good. none_of service input.remaining k k stream stream (Err ReadFailed) refl refl;
      always = unread_connection k stream (Err ReadFailed) read.ReadFailed refl;
      bounded = bounded;
      nothing = λ x. cc x;
      empty = λ known. tt;
      unread = λ x. (rose refl, refl, refl);
      unmade = λ x. refl;
      good = λ good. good;
      reached = λ reached. reached;
    }
    none read.NoMemory rose = record {
      served = λ bytes rest head known b good. record { written = refl; some = λ x. cc x; left = inl refl };
      refused = λ bytes known none. (refl, refl);
      carries = λ good. none_of service input.remaining k k stream stream (Err NoMemory) refl refl;
      always = unread_connection k stream (Err NoMemory) read.NoMemory refl;
      bounded = bounded;
      nothing = λ x. cc x;
      empty = λ known. tt;
      unread = λ x. cc x;
      unmade = λ x. refl;
      good = λ good. good;
      reached = λ reached. reached;
    }

-- one that ended before its first byte
pub empty_answered : (service : Service) (k : Keeper) (input left : Source) (stream : Stream) → TakesAtMost (8192 + 65536) input.remaining left.remaining
    → IsAtEnd input.remaining → IsAnsweredAt service k k input left stream stream (Ok Nothing)
empty_answered service k input left stream bounded end = record {
  served = λ bytes rest head known b good. absurd (no_head bytes (at_end input.remaining bytes known end) (head, rest, b));
  refused = λ bytes known none. (refl, refl);
  carries = λ good. none_of service input.remaining k k stream stream (Ok Nothing) refl refl;
  always = empty_connection k stream;
  bounded = bounded;
  nothing = λ x. (end, refl, refl);
  empty = λ known. refl;
  unread = λ x. cc x;
  unmade = λ x. cc x;
  good = λ good. good;
  reached = λ reached. reached;
}

module _ (service : Service) (input left : Source) (before behind : Stream) (result : Result Served HttpFault) (r : Response)
    (sent : IsWritten (λ c. c ≡ content_of r) before behind result) (some : result ≢ Ok Nothing) (calm : result ≢ Err ReadFailed)
    (fixed : r ≡ made.Unavailable → result ≢ Err NoMemory)
    (begun : input.remaining ≡ Some [] → ⊥) (bounded : TakesAtMost (8192 + 65536) input.remaining left.remaining) where
  -- one that was refused
  pub refused_answered : (k : Keeper) → ((bytes : List ℕ) → input.remaining ≡ Some bytes → IsReading service bytes left.remaining (refused (content_of r)))
      → IsNo503 (refused (content_of r)) → IsAnsweredAt service k k input left before behind result
  refused_answered k reads plain = record {
    served = λ bytes rest head known b good.
        let is = reading_is service bytes rest head left.remaining (refused (content_of r)) (reads bytes known) b in
        refused_served _ k before behind result (content_of r) (sym (ap (reading_outcome k.register) is)) sent some;
    refused = λ bytes known none.
        (of_kind (IsRefusal bytes left.remaining) (content_of r) before behind result (refusal_is service bytes left.remaining (refused (content_of r)) (reads bytes known) none) sent, refl);
    carries = λ good.
        none_of service input.remaining k k before behind result refl
        (of_kind (IsToldAt service input.remaining None k k) (content_of r) before behind result
        (refl, inl (reading_may_ask service input.remaining left.remaining (refused (content_of r)) reads, plain, refl)) sent);
    always = connection k k before behind result r (refusal_accounts k r plain) fixed sent;
    bounded = bounded;
    nothing = λ e. absurd (some e);
    empty = λ known. absurd (begun known);
    unread = λ e. absurd (calm e);
    unmade = λ e. subst (IsWritten (λ c. c ≡ content_of r) before behind) e sent;
    good = λ good. good;
    reached = λ reached. reached;
  }

  -- one that was put to the register
  pub turned_answered : (old new : Keeper) (logins : Option (List LoginRow)) (login : Option (List ℕ)) (a : Target) (body : List ℕ)
      → ((bytes : List ℕ) → input.remaining ≡ Some bytes → IsReading service bytes left.remaining (caller_checked logins login (asks a body)))
      → (IsGood old.register → IsTurn (checked_outcome logins login old.register a body) old new (content_of r)) → AccountsFor old new (Ok r)
      → IsAnsweredAt service old new input left before behind result
  turned_answered old new logins login a body reads turned accounts =
      let turn : IsGood old.register → IsTurn (reading_outcome old.register (caller_checked logins login (asks a body))) old new (content_of r) =
      λ good. subst (λ (o : Outcome). IsTurn o old new (content_of r)) (sym (outcome_of logins login old.register a body)) (turned good) in
      record {
        served = λ bytes rest head known b good.
            let is = reading_is service bytes rest head left.remaining (caller_checked logins login (asks a body)) (reads bytes known) b in
            served_as _ _ old new before behind result (sym (ap (reading_outcome old.register) is))
            (answered_served _ old new before behind result (content_of r) (turn good) sent some);
        refused = λ bytes known none. absurd (asks_unrefused logins login (Some bytes) left.remaining a body (refusal_is service bytes left.remaining (caller_checked logins login (asks a body)) (reads bytes known) none));
        carries = λ good.
            turn_carries service input.remaining old new before behind result (caller_checked logins login (asks a body)) r (reading_may_ask service input.remaining left.remaining (caller_checked logins login (asks a body)) reads) (turn good) accounts sent;
        always = connection old new before behind result r accounts fixed sent;
        bounded = bounded;
        nothing = λ e. absurd (some e);
        empty = λ known. absurd (begun known);
        unread = λ e. absurd (calm e);
        unmade = λ e. subst (IsWritten (λ c. c ≡ content_of r) before behind) e sent;
        good = λ good. stays_good _ _ (caller_checked logins login (asks a body)) good (turn_leaves _ _ _ _ (turn good));
        reached = λ reached. stays_reached _ _ (caller_checked logins login (asks a body)) reached (turn_leaves _ _ _ _ (turn (reached_are_good old.register reached)));
      }

-- one for whose response memory ran out
pub unmade_answered : (service : Service) (old new : Keeper) (input left : Source) (stream : Stream) (result : Result Served HttpFault)
    (logins : Option (List LoginRow)) (login : Option (List ℕ)) (a : Target) (body : List ℕ)
    → TakesAtMost (8192 + 65536) input.remaining left.remaining
    → result ≡ Err NoMemory → ((bytes : List ℕ) → input.remaining ≡ Some bytes → IsReading service bytes left.remaining (caller_checked logins login (asks a body)))
    → (IsGood old.register → IsLeft (checked_outcome logins login old.register a body) old.register new.register) → new.faults ≡ old.faults
    → IsAnsweredAt service old new input left stream stream result
unmade_answered service old new input left stream result logins login a body bounded e reads turned same = subst (IsAnsweredAt service old new input left stream stream) (sym e) none
  where
    left_so : IsGood old.register → IsLeft (reading_outcome old.register (caller_checked logins login (asks a body))) old.register new.register
    left_so good = subst (λ (o : Outcome). IsLeft o old.register new.register) (sym (outcome_of logins login old.register a body)) (turned good)

    none : IsAnsweredAt service old new input left stream stream (Err NoMemory)
    none = record {
      served = λ bytes rest head known b good.
          let is = reading_is service bytes rest head left.remaining (caller_checked logins login (asks a body)) (reads bytes known) b in
          let o = reading_outcome old.register (caller_checked logins login (asks a body)) in
          served_as (respond_at service old.register head rest) o old new stream stream (Err NoMemory) (sym (ap (reading_outcome old.register) is))
          (unmade_served o old new stream (Err NoMemory) refl (left_so good));
      refused = λ bytes known none. absurd (asks_unrefused logins login (Some bytes) left.remaining a body (refusal_is service bytes left.remaining (caller_checked logins login (asks a body)) (reads bytes known) none));
      carries = λ good.
          unmade_carries service input.remaining old new stream (caller_checked logins login (asks a body)) (reading_may_ask service input.remaining left.remaining (caller_checked logins login (asks a body)) reads) (left_so good);
      always = unmade_connection old new stream (Err NoMemory) refl same;
      bounded = bounded;
      nothing = λ x. cc x;
      empty = λ known. tt;
      unread = λ x. cc x;
      unmade = λ x. refl;
      good = λ good. stays_good old.register new.register (caller_checked logins login (asks a body)) good (left_so good);
      reached = λ reached. stays_reached old.register new.register (caller_checked logins login (asks a body)) reached (left_so (reached_are_good old.register reached));
    }
