-- What comes of a visit of a database whose register is known: what is printed, and the response to a request for the board.
use Rattle.std.proofs.Common.{◌≡◌, ◌∙◌, ℕ, ap, inl, inr, refl, subst, sym, List, None, Option, Some, Result, Ok, Err}
use Rattle.std.specs.Prelude.{◌⊎◌, IsErrAnd, OnOk, String}
use Rattle.std.specs.Borrow.{Bor}
use Rattle.std.specs.declared.alloc.Global.{Global}
use Rattle.sqlite.specs.Held.{Held}
use Rattle.sqlite_trees.specs.declared.store.Store.{Ghosts}
use Rattle.clr_stream.specs.Streams.{Stream}
use Rattle.clr_rules.specs.Good.{IsGood}
use Rattle.clr_rules.specs.Id.{Id}
use Rattle.clr_rules.specs.Register.{Register}
use Rattle.clr_http.specs.declared.registrar.Registrar as registrar
use Rattle.clr_staff.specs.declared.logins.LoginRow.{LoginRow}
use Rattle.clr_args.specs.declared.asked.ServeArgs.{ServeArgs}
use Rattle.clr_commands.specs.declared.serve.Terms.{Terms}
use Rattle.clr_edge.specs.Database.{HasRegister, IsDatabaseFault}
use Rattle.clr_edge.specs.Visit.{Closed, Comes, Done, Ending, Opening, Shutting, first_fault}
use Rattle.clr_edge.specs.declared.fault.Fault.{Fault}
use Rattle.clr_keeping.specs.Keeping.{IsNotReadAlone, Works, plain_keeper, unlogged}
use Rattle.clr_keeping.specs.TakenUp.{Logs}
use Rattle.clr_edge.specs.declared.loopback.Loopback as loopback
use Rattle.clr_commands.specs.Answers.{GivesText, Prints}
use Rattle.clr_commands.specs.Connections.{ReportsConnection, Seen, TakesFirst, TakesNext}
use Rattle.clr_commands.specs.Desks.{desk_keeps}
use Rattle.clr_commands.specs.Logins.{NamesLogins, terms_with}
use Rattle.clr_edge.specs.Paths.{AtPaths}
use Rattle.clr_commands.specs.Serve.{ServesAt, ServesDesk, ServesKeeper, ServesKept, ServesRead}
use Rattle.clr_commands.specs.Stored.{AnswersOf, PrintsOf, WhileOpen}
use Rattle.clr_commands.specs.WayBack.{GivesBackTo, IsOfWayBack, way_back_to}
use Rattle.clr_known.specs.Known.{IsAlwaysClean, IsAskedForBoard, IsBoardResponse, KnowsJones, ServesOnce, fresh, jones_register, once_at}
use Rattle.clr_known.proofs.BoardServed.{begins, board_sent}

-- what is answered of a register that was opened, for the clearance that a word names
abbrev IsWayBackTo : Option Id → Register → Result (List ℕ) Fault → Type 0
IsWayBackTo o R known = (way_back_to R o ≡ known) × GivesBackTo R o

-- what holds where the first of two faults is none, and no more where there is one
of_first : (served : Done) (closed : Closed) (P : Type 0) → OnOk served P → OnOk (first_fault served closed) P
of_first (Ok value) (Ok other) P holds = holds
of_first (Ok value) (Err fault) P holds = tt
of_first (Err fault) closed P holds = tt

-- what premises give of a result, they give where it is none
pub given_all : {A B : Type 0} (Z : Type 0) (result : Done) → (A → B → OnOk result Z) → OnOk result (A → B → Z)
given_all Z (Ok value) given = given
given_all Z (Err fault) given = tt

module _ {M T : Type 0} (g : Ghosts T) (clean : IsAlwaysClean g)
    (opens : Opening M T) (shuts : Shutting M) (ends : Ending M T) (knows : KnowsJones g opens) where
  -- what is printed is what is answered of the register
  pub answer_given : (path : List ℕ) (IsOwn : Fault → Type 0) (answer : Register → Result (List ℕ) Fault) (result : Result (String Global) Fault)
      (old new : M) → Comes opens shuts ends path (WhileOpen (PrintsOf g IsOwn answer)) result old new
      → GivesText IsDatabaseFault (answer jones_register) result
  answer_given path IsOwn answer result old new (inl (cause, is, shut)) =
      subst (λ (r : Result (String Global) Fault). GivesText IsDatabaseFault (answer jones_register) r) (sym is) (λ other. absurd (other (cause, refl)))
  answer_given path IsOwn answer result old new (inr visit) =
      visit.does.1.known jones_register (knows _ _ _ _ visit.opened) (clean visit.after)

  -- the same of a way back, which closes its record alone besides
  pub way_back_given : (path : List ℕ) (o : Option Id) (result : Result (String Global) Fault) (old new : M)
      → Comes opens shuts ends path (WhileOpen (AnswersOf g IsOfWayBack (IsWayBackTo o))) result old new → GivesText IsDatabaseFault (way_back_to jones_register o) result
  way_back_given path o result old new (inl (cause, is, shut)) =
      subst (λ (r : Result (String Global) Fault). GivesText IsDatabaseFault (way_back_to jones_register o) r) (sym is) (λ other. absurd (other (cause, refl)))
  way_back_given path o result old new (inr visit) =
      told result (visit.does.1.known jones_register (knows _ _ _ _ visit.opened) (clean visit.after))
    where
      told : (result : Result (String Global) Fault) → Prints IsDatabaseFault (IsWayBackTo o jones_register) result → GivesText IsDatabaseFault (way_back_to jones_register o) result
      told (Ok text) prints = prints.0
      told (Err fault) prints = λ other. (prints other).0

  module _ {L R W J C : Type 0} (logs : Logs M J C) (net : loopback.Ghosts M L R W) (seen : Seen R W) (response : M → List ℕ)
      (asked : IsAskedForBoard ends net seen response) where
    module _ {X : Type 0} (by : registrar.Ghosts X) where
      -- of a connection that was answered the response is kept
      answered : (port : ℕ) (k k' : X) (l : L) (reported : Stream) (old new : M) → (by.keeper k).register ≡ jones_register
          → IsGood (by.keeper k).register → reported ≡ fresh → TakesNext by net seen (once_at port) l 1 k k' reported fresh old new
          → IsBoardResponse (response new)
      answered port k k' l reported old new register good none (inr missed) = absurd (asked.misses _ _ _ _ _ missed.1)
      answered port k k' l reported old new register good none (inl it) =
          let (served, is, put, reports) = it.served in
          let (comes, empty) = asked.comes _ _ _ _ _ it.came in
          let quiet = subst (λ (e : Stream). ReportsConnection 1 served e fresh) none reports in
          board_sent (by.keeper k) (by.keeper k') _ _ served _ register empty (asked.keeps _ _ _ _ it.left) (is.served _ _ _ comes begins good) quiet

      taken : (port : ℕ) (k k' : X) (l : L) (old new : M) → (by.keeper k).register ≡ jones_register → IsGood (by.keeper k).register
          → TakesFirst by net seen (once_at port) l 1 k k' fresh fresh old new → IsBoardResponse (response new)
      unfolding TakesFirst
      taken port k k' l old new register good (middle, between, reported, first, next, certain) =
          answered port between k' l reported middle new (ap (λ (x : X). (by.keeper x).register) first.1 ∙ register)
          (subst (λ (x : X). IsGood (by.keeper x).register) (sym first.1) good) first.2 next

    module _ (at : AtPaths) (args : ServeArgs) (once : ServesOnce args) (output output' errors errors' : Stream) (quiet : errors ≡ fresh)
        (quiet' : errors' ≡ fresh) where
      -- of one who keeps the register
      kept_so : {X : Type 0} (by : registrar.Ghosts X) (first last : X) (value : Unit {0}) (old new : M) → (by.keeper first).register ≡ jones_register
          → IsGood (by.keeper first).register
          → ServesKeeper by net seen output output' errors errors' (terms_with args None) first last (Ok value) old new → IsBoardResponse (response new)
      kept_so {X} by first last value old new register good (listener, middle, begun, went, takes, runs) =
          taken by args.port first last listener middle new register good
          (subst (λ (e : Stream). TakesFirst by net seen (once_at args.port) listener 1 first last e fresh middle new) quiet
          (subst (λ (e : Stream). TakesFirst by net seen (once_at args.port) listener 1 first last errors e middle new) quiet'
          (subst (λ (t : Terms). TakesFirst by net seen t listener t.count first last errors errors' middle new) once.terms takes)))

      served_so : (served : Done) (old new : M) (before after : Held T) → HasRegister g jones_register before
          → (IsErrAnd served (λ fault. (new ≡ old) × IsNotReadAlone g before fault after) × ((output' ≡ output) × (errors' ≡ errors)))
          ⊎ Works (unlogged g) (ServesDesk net seen args None output output' errors errors' (plain_keeper g) served) old new before after
          → OnOk served (IsBoardResponse (response new))
      served_so (Err fault) old new before after has over = tt
      served_so (Ok value) old new before after has (inl refused) = absurd refused.0
      served_so (Ok value) old new before after has (inr it) =
          subst (λ (m : M). IsBoardResponse (response m)) (sym it.gone.0)
          (kept_so (desk_keeps (plain_keeper g)) it.taken it.left value it.between it.later (it.taken_up.1.0.is_register _ has (clean it.taken.store)) it.good
          it.did.serves)

      -- the database is closed after it, which sends nothing
      closed_so : (result served : Done) (closed : Closed) (after : Held T) (later new : M) → result ≡ first_fault served closed → ends later after closed new
          → OnOk served (IsBoardResponse (response later)) → OnOk result (IsBoardResponse (response new))
      closed_so result served closed after later new is back sent =
          subst (λ (r : Done). OnOk r (IsBoardResponse (response new))) (sym is) (of_first served closed _
          (subst (λ (bytes : List ℕ). OnOk served (IsBoardResponse bytes)) (sym (asked.ended _ _ _ _ back)) sent))

      no_visit : (result : Done) (fault : Fault) (P : Type 0) → result ≡ Err fault → OnOk result P
      no_visit result fault P is = subst (λ (r : Done). OnOk r P) (sym is) tt

      kept : (path : List ℕ) (result : Done) (old new : M)
          → ServesKept net seen args None output output' errors errors' logs g opens shuts ends None path result old new
          → OnOk result (IsBoardResponse (response new))
      kept path result old new (inl (cause, is, shut)) = no_visit result _ _ is
      kept path result old new (inr visit) =
          let stored = visit.does in
          closed_so result stored.told visit.closed visit.after visit.later new stored.result_is visit.ended
          (served_so stored.told visit.middle visit.later visit.before visit.after (knows _ _ _ _ visit.opened) stored.works)

      -- what goes out is the response to the request for the board
      pub service_given : (result : Done) (old new : M)
          → ServesAt logs net seen at args output output' errors errors' g opens shuts ends result old new
          → OnOk result (IsBoardResponse (response new))
      service_given result old new (read, names, serves) =
          let none : read ≡ Ok None = subst (λ (path : Option (Bor (List ℕ))). NamesLogins at path read) once.no_logins names in
          let kept_by : ServesKept net seen args None output output' errors errors' logs g opens shuts ends args.journal args.database.now result old new =
          subst (λ (r : Result (Option (List LoginRow)) Fault).
          ServesRead logs net seen at args output output' errors errors' g opens shuts ends r result old new) none serves in
          kept args.database.now result old new
          (subst (λ (journal : Option (Bor (List ℕ))).
          ServesKept net seen args None output output' errors errors' logs g opens shuts ends journal args.database.now result old new) once.no_journal kept_by)
