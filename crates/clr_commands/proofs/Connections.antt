-- The connections of a port, one by one, and the register that they lead to.
use Rattle.std.proofs.Common.{◌≡◌, ◌⊎◌, ◌+◌, ◌∙◌, ℕ, Bool, false, true, zero, suc, List, [], Option, None, Some, Result, Ok, Err, ap, arith, inl, inr, refl, subst, sym}
use Rattle.std.specs.Prelude.{◌<◌, IfErr, IsErrAnd, OnErr, OnOk}
use Rattle.std.specs.Io.KnownBytes.{Appends}
use Rattle.std.specs.declared.io.ErrorKind.{ErrorKind}
use Rattle.clr_stream.specs.Streams.{AppendsFront, IsCut, Sends, Stream, WentOut}
use Rattle.clr_rules.specs.Good.{IsGood}
use Rattle.clr_rules.specs.Register.{Register}
use Rattle.clr_rules.specs.Run.{after_all}
use Rattle.clr_rules.proofs.keeps.EveryKind.{runs_keep_good}
use Rattle.clr_http.specs.declared.registrar.Registrar as registrar
use Rattle.clr_http.specs.RequestLaws.{ComesWithin}
use Rattle.clr_http.proofs.RequestRuns.{carried_one, comes_further}
use Rattle.clr_http.specs.declared.serve.HttpFault.{HttpFault}
use Rattle.clr_http.specs.declared.serve.Served.{Served}
use Rattle.clr_args.specs.declared.asked.ServeArgs.{ServeArgs}
use Rattle.clr_staff.specs.declared.logins.LoginRow.{LoginRow}
use Rattle.clr_net.specs.Results.{◌>>=◌}
use Rattle.clr_edge.specs.Logins.{known_logins}
use Rattle.clr_edge.specs.Visit.{Done}
use Rattle.clr_edge.specs.declared.fault.Fault.{Fault}
use Rattle.clr_edge.specs.declared.fault.Fault.TheVariants.{Output}
use Rattle.clr_edge.specs.Loopback.{StandsOn}
use Rattle.clr_edge.specs.declared.loopback.Loopback as loopback
use Rattle.clr_commands.specs.Connections.{MissesLast, ReportsConnection, Seen, TakesFirst, TakesNext, accept_fault, connection_line, tries_of}
use Rattle.clr_commands.specs.ConnectionLaws.{ConnectionsHaveRun, EndsEarly, is_early}
use Rattle.clr_commands.specs.Logins.{terms_of, terms_with}
use Rattle.clr_commands.specs.Serve.{ServesKeeper, ServesOn, serving_line}
use Rattle.clr_commands.specs.declared.serve.Terms.{Terms}

none_within : (n : ℕ) (R Q : Register) → Q ≡ R → ComesWithin n R Q
unfolding after_all
none_within n R Q e = ([], omega arith, e)

more_within : (n m : ℕ) (R Q : Register) → n < m → ComesWithin n R Q → ComesWithin m R Q
more_within n m R Q short (commands, few, e) = (commands, omega (arith, few, short), e)

within_good : (n : ℕ) (R Q : Register) → ComesWithin n R Q → IsGood R → IsGood Q
within_good n R Q (commands, few, e) good = subst IsGood (sym e) (runs_keep_good R commands good)

module _ {D M L R W : Type 0} (by : registrar.Ghosts D) (net : loopback.Ghosts M L R W) (seen : Seen R W) (terms : Terms) (listener : L) where
  -- before the first connection nothing was done
  pub first_taken : (k : D) (errors : Stream) (old : M) → TakesFirst by net seen terms listener 0 k k errors errors old old
  unfolding TakesFirst
  first_taken k errors old = (refl, refl, refl)

  taken_after : (n : ℕ) (k between k' : D) (errors reported errors' : Stream) (old middle new : M)
      → TakesFirst by net seen terms listener n k between errors reported old middle
      → TakesNext by net seen terms listener (n + 1) between k' reported errors' middle new → by.doubts k' ≡ false
      → TakesFirst by net seen terms listener (suc n) k k' errors errors' old new
  unfolding TakesFirst
  taken_after n k between k' errors reported errors' old middle new first next certain = (middle, between, reported, first, next, certain)

  -- one connection more
  pub next_taken : (n : ℕ) (k between k' : D) (errors reported errors' : Stream) (old middle new : M)
      → TakesFirst by net seen terms listener n k between errors reported old middle
      → TakesNext by net seen terms listener (n + 1) between k' reported errors' middle new → by.doubts k' ≡ false
      → TakesFirst by net seen terms listener (n + 1) k k' errors errors' old new
  next_taken n k between k' errors reported errors' old middle new first next certain =
      let P : ℕ → Type 0 = λ m. TakesFirst by net seen terms listener m k k' errors errors' old new in
      let e : suc n ≡ n + 1 = omega arith in
      subst P e (taken_after n k between k' errors reported errors' old middle new first next certain)

  next_follows : (number : ℕ) (k k' : D) (errors errors' : Stream) (old new : M)
      → TakesNext by net seen terms listener number k k' errors errors' old new → IsGood (by.keeper k).register → ComesWithin 1 (by.keeper k).register (by.keeper k').register
  next_follows number k k' errors errors' old new (inl answers) good =
      let (served, answered, put, reported) = answers.served in
      carried_one _ (by.keeper k) (by.keeper k') _ _ served (answered.carries good)
  next_follows number k k' errors errors' old new (inr (kind, missed, kept, reported, plain)) good =
      none_within 1 (by.keeper k).register (by.keeper k').register (ap (λ (it : D). (by.keeper it).register) kept)

  -- the first connections lead to the register by as many commands at most
  first_within : (n : ℕ) (k k' : D) (errors errors' : Stream) (old new : M)
      → TakesFirst by net seen terms listener n k k' errors errors' old new → IsGood (by.keeper k).register → ComesWithin n (by.keeper k).register (by.keeper k').register
  unfolding TakesFirst
  first_within zero k k' errors errors' old new (same, kept, quiet) good =
      none_within 0 (by.keeper k).register (by.keeper k').register (ap (λ (it : D). (by.keeper it).register) kept)
  first_within (suc n) k k' errors errors' old new (middle, between, reported, first, next, certain) good =
      let far = first_within n k between errors reported old middle first good in
      comes_further n (suc n) (by.keeper k).register (by.keeper between).register (by.keeper k').register far
      (next_follows (n + 1) between k' reported errors' middle new next (within_good n (by.keeper k).register (by.keeper between).register far good))
      (omega arith)

-- and so does a server, whatever it came to
pub server_within : {D M L R W : Type 0} (by : registrar.Ghosts D) (net : loopback.Ghosts M L R W) (seen : Seen R W) (terms : Terms)
    (output output' errors errors' : Stream) (k k' : D) (served : Done) (old new : M)
    → ServesKeeper by net seen output output' errors errors' terms k k' served old new
    → IsGood (by.keeper k).register → ComesWithin terms.count (by.keeper k).register (by.keeper k').register
server_within by net seen terms output output' errors errors' k k' (Ok value) old new (listener, middle, stands, went, taken, run) good =
    first_within by net seen terms listener terms.count k k' errors errors' middle new taken good
server_within {D = D} by net seen terms output output' errors errors' k k' (Err fault) old new (inl (kept, quiet, rest)) good =
    none_within terms.count (by.keeper k).register (by.keeper k').register (ap (λ (it : D). (by.keeper it).register) kept)
server_within by net seen terms output output' errors errors' k k' (Err fault) old new (inr (listener, middle, stands, went, inl (is, (n, short, it, run)))) good =
    more_within n terms.count (by.keeper k).register (by.keeper k').register short
    (first_within by net seen terms listener n k k' errors errors' middle it.middle it.taken good)
server_within by net seen terms output output' errors errors' k k' (Err fault) old new (inr (listener, middle, stands, went, inr (is, (n, short, it, run)))) good =
    let far = first_within by net seen terms listener n k it.between errors it.reported middle it.middle it.taken good in
    comes_further n terms.count (by.keeper k).register (by.keeper it.between).register (by.keeper k').register far
    (next_follows by net seen terms listener (n + 1) it.between k' it.reported errors' it.middle new it.last (within_good n (by.keeper k).register (by.keeper it.between).register far good))
    (omega (arith, short))

-- and so does one that is asked for, whose logins the staff may lack
pub asked_within : {D M L R W : Type 0} (by : registrar.Ghosts D) (net : loopback.Ghosts M L R W) (seen : Seen R W) (args : ServeArgs) (logins : Option (List LoginRow))
    (output output' errors errors' : Stream) (k k' : D) (served : Done) (old new : M)
    → ServesOn by net seen output output' errors errors' (terms_of args (by.keeper k).register.staff logins) k k' served old new
    → IsGood (by.keeper k).register → ComesWithin args.count (by.keeper k).register (by.keeper k').register
asked_within by net seen args None output output' errors errors' k k' served old new serves good =
    server_within by net seen (terms_with args None) output output' errors errors' k k' served old new serves good
asked_within {D = D} by net seen args (Some rows) output output' errors errors' k k' served old new serves good =
    of (known_logins (by.keeper k).register.staff rows) serves
  where
    of : (known : Result (List LoginRow) Fault)
        → ServesOn by net seen output output' errors errors' (known >>= (λ rows. Ok (terms_with args (Some rows)))) k k' served old new
        → ComesWithin args.count (by.keeper k).register (by.keeper k').register
    of (Ok rows) serves = server_within by net seen (terms_with args (Some rows)) output output' errors errors' k k' served old new serves good
    of (Err fault) (kept, unserved) = none_within args.count (by.keeper k).register (by.keeper k').register (ap (λ (it : D). (by.keeper it).register) kept)

-- a server whose line could not be written
pub server_cut : {D M L R W : Type 0} (by : registrar.Ghosts D) (net : loopback.Ghosts M L R W) (seen : Seen R W) (terms : Terms) (output output' errors : Stream)
    (k : D) (result : Done) (fault : Fault) (text : List ℕ) (listener : L) (old new : M) → IsErrAnd result (λ cause. cause ≡ fault) → fault ≡ Output
    → StandsOn net.stands old terms.port listener new → text ≡ serving_line terms.port → IsCut output output' text
    → ServesKeeper by net seen output output' errors errors terms k k result old new
server_cut by net seen terms output output' errors k (Ok value) fault text listener old new is of_output stands same cut = absurd is
server_cut by net seen terms output output' errors k (Err cause) fault text listener old new is of_output stands same cut =
    inl (refl, refl, inr (listener, stands, is ∙ of_output, subst (λ (t : List ℕ). IsCut output output' t) same cut))

-- a server that listened and said so, whatever its connections came to
pub server_ended : {D M L R W : Type 0} (by : registrar.Ghosts D) (net : loopback.Ghosts M L R W) (seen : Seen R W) (terms : Terms) (output output' errors errors' : Stream)
    (k k' : D) (result : Done) (listener : L) (old middle new : M) → StandsOn net.stands old terms.port listener middle → WentOut output output' (serving_line terms.port)
    → OnOk result (TakesFirst by net seen terms listener terms.count k k' errors errors' middle new)
    → OnOk result (IsGood (by.keeper k).register → ConnectionsHaveRun by net seen terms listener terms.count k k' errors errors' middle new)
    → IfErr result (λ fault. EndsEarly by net seen terms listener fault k k' errors errors' middle new)
    → ServesKeeper by net seen output output' errors errors' terms k k' result old new
server_ended by net seen terms output output' errors errors' k k' (Ok value) listener old middle new stands went taken run ended =
    (listener, middle, stands, went, taken, run)
server_ended by net seen terms output output' errors errors' k k' (Err cause) listener old middle new stands went taken run ended =
    inr (listener, middle, stands, went, ended)

-- a connection that could not be taken
pub missed_next : {D M L R W : Type 0} (by : registrar.Ghosts D) (net : loopback.Ghosts M L R W) (seen : Seen R W) (terms : Terms) (listener : L)
    (number : ℕ) (k : D) (errors errors' : Stream) (old new : M) (kind : ErrorKind) (result : Done)
    → net.misses old listener (tries_of terms.service.desk) kind new
    → OnOk result (ReportsConnection number (Err (accept_fault kind)) errors errors') → OnOk result (terms.service.desk ≡ false)
    → OnOk result (TakesNext by net seen terms listener number k k errors errors' old new)
missed_next by net seen terms listener number k errors errors' old new kind (Ok value) missed reported plain = inr (kind, missed, refl, reported, plain)
missed_next by net seen terms listener number k errors errors' old new kind (Err fault) missed reported plain = tt

pub missed_last : {D E M L : Type 0} (misses : M → L → ℕ → ErrorKind → M → Type 0) (is_desk : Bool) (listener : L) (k : D) (e e' : E) (old new : M)
    (kind : ErrorKind) (result : Done) → misses old listener (tries_of is_desk) kind new → OnErr result ((is_desk ≡ true) × (e' ≡ e))
    → OnErr result (MissesLast misses is_desk listener k k e e' old new)
missed_last misses is_desk listener k e e' old new kind (Ok value) missed ended = tt
missed_last misses is_desk listener k e e' old new kind (Err fault) missed (desk, quiet) = (kind, missed, desk, refl, quiet)

-- any other fault comes before the first connection
pub early_only : (result : Done) (Same : Type 0) → IfErr result (λ fault. is_early fault ≡ true) → IfErr result (λ fault. is_early fault ≡ false → Same)
early_only (Ok value) Same is = tt
early_only (Err fault) Same is = λ other. cc (sym is ∙ other)

-- a connection that failed is reported
pub failed_reported : (number : ℕ) (served : Result Served HttpFault) (fault : HttpFault) (errors errors' : Stream) → served ≡ Err fault
    → Sends errors errors' (connection_line number fault) → ReportsConnection number served errors errors'
failed_reported number served fault errors errors' is sends =
    subst (λ (r : Result Served HttpFault). ReportsConnection number r errors errors') (sym is) sends

-- a text that went out, in other words
pub went_as : (F : Type 0) (old new : Option (List ℕ)) (text line : List ℕ) → text ≡ line → Appends old new text × F → Appends old new line × F
went_as F old new text line same went = subst (λ (t : List ℕ). Appends old new t × F) same went

-- a line that was written goes out whole, unless the writer failed
pub sends_from : {T : Type 0} (written : Result T Fault) (F H : Type 0) (old new : Option (List ℕ)) (text line : List ℕ) → text ≡ line
    → OnOk written (Appends old new text × F) → OnErr written (AppendsFront old new text × H)
    → (Appends old new line × F) ⊎ (AppendsFront old new line × H)
sends_from (Ok value) F H old new text line same whole cut = inl (went_as F old new text line same whole)
sends_from (Err fault) F H old new text line same whole cut = inr (subst (λ (t : List ℕ). AppendsFront old new t × H) same cut)
