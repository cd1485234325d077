-- What a server writes: its line, and the lines of connections that failed.
use Rattle.std.proofs.Common.{◌≡◌, ◌≢◌, ◌⊎◌, ◌∙◌, ℕ, zero, suc, ◌+◌, not, List, Option, None, Some, Result, Ok, Err, ap, inl, inr, subst, sym}
use Rattle.std.specs.Borrow.{Bor}
use Rattle.std.specs.Prelude.{IsErrAnd, position}
use Rattle.std.specs.declared.io.ErrorKind.{ErrorKind}
use Rattle.std.specs.declared.io.ErrorKind.TheVariants.{OutOfMemory}
use Rattle.sqlite.specs.Held.{Held}
use Rattle.sqlite_trees.specs.declared.store.Store.{Ghosts}
use Rattle.clr_stream.specs.Streams.{IsCut, Stream, WentOut}
use Rattle.clr_http.specs.declared.registrar.Registrar as registrar
use Rattle.clr_http.specs.declared.serve.HttpFault.{HttpFault}
use Rattle.clr_http.specs.declared.serve.Served.{Served}
use Rattle.clr_net.specs.Results.{◌>>=◌}
use Rattle.clr_staff.specs.declared.employee.StaffRow.{StaffRow}
use Rattle.clr_staff.specs.declared.logins.LoginRow.{LoginRow}
use Rattle.clr_args.specs.declared.asked.ServeArgs.{ServeArgs}
use Rattle.clr_load.specs.declared.fault.StoreFault.{StoreFault}
use Rattle.clr_load.specs.declared.fault.StoreFault.TheVariants as store
use Rattle.clr_edge.specs.Fault.{of_database, of_store}
use Rattle.clr_keeping.specs.Keeping.{IsNotReadAlone, Keeping, Works, WorksIn, logged, unlogged}
use Rattle.clr_keeping.specs.TakenUp.{IsNotTakenUp, Logs}
use Rattle.clr_keeping.specs.TakenUp.IsNotTakenUp.{apart as was_apart, refused as was_refused, unopened as was_unopened, unplaced as was_unplaced, without as was_without}
use Rattle.clr_edge.specs.Logins.{is_employee, unless_unknown}
use Rattle.clr_edge.specs.Loopback.{listen_fault}
use Rattle.clr_edge.specs.Visit.{Closed, Done, Ending, Opening, Shutting, first_fault}
use Rattle.clr_edge.specs.declared.fault.DatabaseFault.{DatabaseFault}
use Rattle.clr_edge.specs.declared.fault.DatabaseFault.TheVariants as database
use Rattle.clr_edge.specs.declared.fault.Fault.{Fault}
use Rattle.clr_edge.specs.declared.fault.Fault.TheVariants.{Output, UnknownEmployee}
use Rattle.clr_edge.specs.declared.loopback.Loopback as loopback
use Rattle.clr_commands.specs.Connections.{ReportsConnection, ReportsFirst, Seen, TakesFirst, TakesNext, accept_fault}
use Rattle.clr_commands.specs.Desks.{desk_keeps}
use Rattle.clr_commands.specs.Logins.{NamesLogins, terms_of, terms_with}
use Rattle.clr_edge.specs.Paths.{AtPaths}
use Rattle.clr_commands.specs.Serve.{ServesAt, ServesDesk, ServesKeeper, ServesKept, ServesOn, serving_line}
use Rattle.clr_commands.specs.declared.serve.Terms.{Terms}
use Rattle.clr_commands.proofs.Faults.{file_plain, taking_up_plain}

module _ {D M L R W : Type 0} (by : registrar.Ghosts D) (net : loopback.Ghosts M L R W) (seen : Seen R W) (terms : Terms) (listener : L) where
  next_reported : (number : ℕ) (k k' : D) (errors errors' : Stream) (old new : M)
      → TakesNext by net seen terms listener number k k' errors errors' old new → (served : Result Served HttpFault) × ReportsConnection number served errors errors'
  next_reported number k k' errors errors' old new (inl answers) =
      let (served, answered, put, reported) = answers.served in
      (served, reported)
  next_reported number k k' errors errors' old new (inr (kind, missed, kept, reported, plain)) = (Err (accept_fault kind), reported)

  -- what is reported of connections that were taken
  pub first_reported : (n : ℕ) (k k' : D) (errors errors' : Stream) (old new : M)
      → TakesFirst by net seen terms listener n k k' errors errors' old new → ReportsFirst n errors errors'
  unfolding TakesFirst ReportsFirst
  first_reported zero k k' errors errors' old new (same, kept, quiet) = quiet
  first_reported (suc n) k k' errors errors' old new (middle, between, reported, first, next, certain) = (
    reported,
    first_reported n k between errors reported old middle first,
    next_reported (n + 1) between k' reported errors' middle new next,
  )

one_more_reported : (n : ℕ) (errors reported errors' : Stream) → ReportsFirst n errors reported
    → (served : Result Served HttpFault) × ReportsConnection (n + 1) served reported errors' → ReportsFirst (suc n) errors errors'
unfolding ReportsFirst
one_more_reported n errors reported errors' first next = (reported, first, next)

-- which faults are not of the output
pub database_other : (cause : DatabaseFault) → of_database cause ≢ Output
database_other database.NoMemory e = cc e
database_other database.Sql e = cc e

pub store_other : (cause : StoreFault) → of_store cause ≢ Output
store_other store.NoMemory e = cc e
store_other _ e = cc e

listen_other : (kind : ErrorKind) → listen_fault kind ≢ Output
listen_other OutOfMemory e = cc e
listen_other _ e = cc e

pub other_as : (fault found : Fault) → fault ≡ found → found ≢ Output → fault ≢ Output
other_as fault found is other e = other (sym is ∙ e)

pub not_alone_other : {T : Type 0} (g : Ghosts T) (before after : Held T) (fault : Fault) → IsNotReadAlone g before fault after → fault ≢ Output
not_alone_other g before after fault (inl unread) e = other_as fault _ unread.refused.told_is (store_other unread.refused.fault) e
not_alone_other g before after fault (inr (inl unplaced)) e = other_as fault _ unplaced.lacks.fault_is (store_other unplaced.lacks.cause) e
not_alone_other g before after fault (inr (inr missing)) e = cc (sym missing.fault_is ∙ e)

pub not_taken_other : {M J C T : Type 0} (g : Ghosts T) (logs : Logs M J C) (path : List ℕ) (old new : M) (before after : Held T) (fault : Fault)
    → IsNotTakenUp g logs path before fault after old new → fault ≢ Output
not_taken_other g logs path old new before after fault (was_refused it survives same) e = other_as fault _ it.told_is (store_other it.fault) e
not_taken_other g logs path old new before after fault (was_unplaced it same) e = other_as fault _ it.lacks.fault_is (store_other it.lacks.cause) e
not_taken_other g logs path old new before after fault (was_without it is same) e = cc (sym is ∙ e)
not_taken_other g logs path old new before after fault (was_unopened place it of shuts) e = (taking_up_plain fault (inr (inr (inl of)))).0 e
not_taken_other g logs path old new before after fault (was_apart it) e = (taking_up_plain fault (inr (inr (inr (it.cause, it.fault_is))))).0 e

-- WHAT A SERVER WROTE, by its result: its line, and what is reported of each connection; nothing,
-- or a part of its line, where it did not begin
abbrev pub Writes : ℕ → ℕ → Done → Stream → Stream → Stream → Stream → Type 0
Writes port count (Ok value) output output' errors errors' =
    WentOut output output' (serving_line port) × ReportsFirst count errors errors'
Writes port count (Err fault) output output' errors errors' =
    ((fault ≢ Output) × (output' ≡ output) × (errors' ≡ errors))
    ⊎ (((fault ≡ Output) × IsCut output output' (serving_line port) × (errors' ≡ errors))
    ⊎ ((fault ≢ Output) × WentOut output output' (serving_line port) × ((n : ℕ) × ReportsFirst n errors errors')))

-- a file of logins that has a fault
named_other : (at : AtPaths) (path : Option (Bor (List ℕ))) (fault : Fault) → NamesLogins at path (Err fault) → fault ≢ Output
named_other at None fault named = cc named
named_other at (Some path) fault (Ok rows, are, e) = cc e
named_other at (Some path) fault (Err cause, are, e) = let same : fault ≡ cause = cc e in other_as fault cause same (file_plain _ cause are.fault).0

module _ (output output' errors errors' : Stream) where
  unserved_written : (port count : ℕ) (fault : Fault) (result : Done) → fault ≢ Output → result ≡ Err fault → output' ≡ output → errors' ≡ errors
      → Writes port count result output output' errors errors'
  unserved_written port count fault result other is same quiet =
      subst (λ (r : Done). Writes port count r output output' errors errors') (sym is) (inl (other, same, quiet))

module _ {D M L R W : Type 0} (by : registrar.Ghosts D) (net : loopback.Ghosts M L R W) (seen : Seen R W) (output output' errors errors' : Stream) where
  keeper_written : (terms : Terms) (k k' : D) (fault : Fault) (old new : M)
      → ServesKeeper by net seen output output' errors errors' terms k k' (Err fault) old new
      → Writes terms.port terms.count (Err fault) output output' errors errors'
  keeper_written terms k k' fault old new (inl (kept, quiet, inl ((address, kind, local, is, refuses), same))) =
      inl (other_as fault (listen_fault kind) is (listen_other kind), same, quiet)
  keeper_written terms k k' fault old new (inl (kept, quiet, inr (listener, stands, is_output, cut))) = inr (inl (is_output, cut, quiet))
  keeper_written terms k k' fault old new (inr (listener, middle, stands, went, inl (is, (n, short, it, run)))) =
      inr (inr (λ e. cc (sym is ∙ e), went, (n, first_reported by net seen terms listener n k k' errors errors' middle it.middle it.taken)))
  keeper_written terms k k' fault old new (inr (listener, middle, stands, went, inr (is, (n, short, it, run)))) =
      inr (inr (
        λ e. cc (sym is ∙ e),
        went,
        (
          suc n,
          one_more_reported n errors it.reported errors' (first_reported by net seen terms listener n k it.between errors it.reported middle it.middle it.taken)
              (next_reported by net seen terms listener (n + 1) it.between k' it.reported errors' it.middle new it.last),
        ),
      ))

  terms_written : (terms : Terms) (k k' : D) (served : Done) (closed : Closed) (old new : M)
      → ServesKeeper by net seen output output' errors errors' terms k k' served old new
      → Writes terms.port terms.count (first_fault served closed) output output' errors errors'
  terms_written terms k k' (Ok value) (Ok done) old new (listener, middle, stands, went, taken, run) =
      (went, first_reported by net seen terms listener terms.count k k' errors errors' middle new taken)
  terms_written terms k k' (Ok value) (Err cause) old new (listener, middle, stands, went, taken, run) =
      inr (inr (database_other cause, went, (terms.count, first_reported by net seen terms listener terms.count k k' errors errors' middle new taken)))
  terms_written terms k k' (Err fault) closed old new serves = keeper_written terms k k' fault old new serves

  -- a server that is asked for, whose logins the staff may lack
  asked_written : (args : ServeArgs) (staff : List StaffRow) (logins : Option (List LoginRow)) (k k' : D) (served : Done) (closed : Closed) (old new : M)
      → ServesOn by net seen output output' errors errors' (terms_of args staff logins) k k' served old new
      → Writes args.port args.count (first_fault served closed) output output' errors errors'
  asked_written args staff None k k' served closed old new serves = terms_written (terms_with args None) k k' served closed old new serves
  asked_written args staff (Some rows) k k' served closed old new serves = of (position (λ row. not (is_employee staff row.employee)) rows) serves
    where
      of : (place : Option ℕ)
          → ServesOn by net seen output output' errors errors' (unless_unknown rows place >>= (λ known. Ok (terms_with args (Some known)))) k k' served old new
          → Writes args.port args.count (first_fault served closed) output output' errors errors'
      of None serves = terms_written (terms_with args (Some rows)) k k' served closed old new serves
      of (Some place) (kept, (is, untouched, same, quiet)) =
          unserved_written output output' errors errors' args.port args.count (UnknownEmployee (place + 1)) (first_fault served closed) (λ e. cc e) (ap (λ (r : Done). first_fault r closed) is) same quiet

module _ {M L R W : Type 0} (net : loopback.Ghosts M L R W) (seen : Seen R W) (output output' errors errors' : Stream) (args : ServeArgs) (logins : Option (List LoginRow)) where
  over_written : {T K : Type 0} (by : Keeping M T K) → ((old new : M) (before after : Held T) (fault : Fault) → by.refuses old new before fault after → fault ≢ Output)
      → (result : Done) (old new : M) (before after : Held T) (closed : Closed)
      → WorksIn by ((output' ≡ output) × (errors' ≡ errors)) (ServesDesk net seen args logins output output' errors errors' by.keeper) first_fault result old before after closed new
      → Writes args.port args.count result output output' errors errors'
  over_written {T} {K} by refused_other result old new before after closed did =
      subst (λ (r : Done). Writes args.port args.count r output output' errors errors') (sym did.result_is) (of did.told did.works)
    where
      of : (told : Done) → (IsErrAnd told (λ fault. by.refuses old new before fault after) × ((output' ≡ output) × (errors' ≡ errors)))
          ⊎ Works by (ServesDesk net seen args logins output output' errors errors' by.keeper told) old new before after
          → Writes args.port args.count (first_fault told closed) output output' errors errors'
      of (Ok value) (inl (refused, quiet)) = absurd refused
      of (Err fault) (inl (refused, (same, quiet))) = inl (refused_other old new before after fault refused, same, quiet)
      of told (inr it) =
          asked_written (desk_keeps by.keeper) net seen output output' errors errors' args it.taken.book.register.staff logins it.taken it.left told closed
          it.between it.later it.did.serves

  kept_written : {S J C : Type 0} (logs : Logs M J C) (g : Ghosts S) (opens : Opening M S) (shuts : Shutting M) (ends : Ending M S)
      (journal : Option (Bor (List ℕ))) (path : List ℕ) (result : Done) (old new : M)
      → ServesKept net seen args logins output output' errors errors' logs g opens shuts ends journal path result old new
      → Writes args.port args.count result output output' errors errors'
  kept_written logs g opens shuts ends journal path result old new (inl (cause, is, (shut, same, quiet))) =
      unserved_written output output' errors errors' args.port args.count (of_database cause) result (database_other cause) is same quiet
  kept_written logs g opens shuts ends None path result old new (inr visit) =
      over_written (unlogged g) (λ old new before after fault not. not_alone_other g before after fault not.1)
      result visit.middle visit.later visit.before visit.after visit.closed visit.does
  kept_written logs g opens shuts ends (Some journal) path result old new (inr visit) =
      over_written (logged g logs journal.now) (λ old new before after fault not. not_taken_other g logs journal.now old new before after fault not)
      result visit.middle visit.later visit.before visit.after visit.closed visit.does

module _ {M L R W J C : Type 0} (logs : Logs M J C) (net : loopback.Ghosts M L R W) (seen : Seen R W) (output output' errors errors' : Stream) where
  -- what `serve` wrote
  pub serve_written : {S : Type 0} (at : AtPaths) (args : ServeArgs) (g : Ghosts S) (opens : Opening M S) (shuts : Shutting M) (ends : Ending M S)
      (result : Done) (old new : M) → ServesAt logs net seen at args output output' errors errors' g opens shuts ends result old new
      → Writes args.port args.count result output output' errors errors'
  serve_written at args g opens shuts ends result old new (Ok logins, named, did) =
      kept_written net seen output output' errors errors' args logins logs g opens shuts ends args.journal args.database.now result old new did
  serve_written at args g opens shuts ends result old new (Err fault, named, (is, untouched, same, quiet)) =
      unserved_written output output' errors errors' args.port args.count fault result (named_other at args.logins fault named) is same quiet
