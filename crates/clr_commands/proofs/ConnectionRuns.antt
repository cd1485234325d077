-- What connections carry out, one after the other, is a run.
use Rattle.std.proofs.Common.{◌≡◌, ◌≤◌, ◌<◌, ◌⊎◌, ◌+◌, ◌∙◌, ℕ, Bool, true, false, zero, suc, List, [], ◌∷◌, Option, None, Some, Result, Ok, Err, ap, arith, inl, inr, length, map, refl, subst, sym}
use Rattle.std.specs.Prelude.{if◌then◌else◌, IfErr, IsErrAnd}
use Rattle.std.specs.declared.io.ErrorKind.{ErrorKind}
use Rattle.clr_stream.specs.Streams.{Stream}
use Rattle.clr_rules.specs.Agreement.{Agree}
use Rattle.clr_rules.specs.Answer.{Answer, answer}
use Rattle.clr_rules.specs.Good.{IsGood}
use Rattle.clr_rules.specs.Id.{Id}
use Rattle.clr_rules.specs.Register.{Register}
use Rattle.clr_rules.specs.Run.{after, after_all, replies}
use Rattle.clr_rules.specs.RunHeadline.{IsRun, RunsChangeNoReply, RunsStandAlone, RunsTakeNothing, own_replies}
use Rattle.clr_rules.specs.Shown.{is_own_command}
use Rattle.clr_rules.specs.declared.command.Command.{Command}
use Rattle.clr_rules.specs.declared.reply.Reply.{Reply}
use Rattle.clr_rules.proofs.good.CrewSafety.{runs_are_safe}
use Rattle.clr_rules.proofs.isolation.RunReplies.{own_replies_are}
use Rattle.clr_http.specs.Asked.{MayAskAt, commands_asked, own_among, reply_bytes, with_asked}
use Rattle.clr_http.specs.Carried.{CarriesAt, IsToldAt}
use Rattle.clr_http.specs.Registrar.{Keeper}
use Rattle.clr_http.specs.Response.{Content, response_bytes}
use Rattle.clr_http.specs.Served.{IsWritten}
use Rattle.clr_http.specs.declared.options.Service.{Service}
use Rattle.clr_http.specs.declared.registrar.Registrar as registrar
use Rattle.clr_http.specs.declared.serve.HttpFault.{HttpFault}
use Rattle.clr_http.specs.declared.serve.HttpFault.TheVariants.{NoMemory, ReadFailed, WriteFailed}
use Rattle.clr_http.specs.declared.serve.Served.{Served}
use Rattle.clr_http.specs.declared.serve.Served.TheVariants.{Answered, Nothing}
use Rattle.clr_http.proofs.Connections.{wider}
use Rattle.clr_edge.specs.declared.loopback.Loopback as loopback
use Rattle.clr_commands.specs.Connections.{Seen, TakesFirst, TakesNext, tries_of}
use Rattle.clr_commands.specs.declared.serve.Terms.{Terms}
use Rattle.clr_commands.specs.ConnectionLaws.{CarriesAll, CarriesNext, CarriesOut, ConnectionsHaveRun, EndsDoubting, EndsEarly, EndsUntaken, HasReply, RunsGetTheSame}
use Rattle.clr_edge.specs.Visit.{Done}
use Rattle.clr_edge.specs.declared.fault.Fault.{Fault}
use Rattle.clr_edge.specs.declared.fault.Fault.TheVariants.{Accept}

-- ---- one connection

-- what went out of a response that has no command, and the whole of it
whole_of : (kind : Content → Type 0) (before behind : Stream) (served : Result Served HttpFault) → IsWritten kind before behind served
    → (response : List ℕ) × IsWritten (λ c. kind c × (response ≡ response_bytes c)) before behind served
whole_of kind before behind (Ok Nothing) w = ([], w)
whole_of kind before behind (Ok (Answered status)) (c, is, same, out) = (response_bytes c, (c, (is, refl), same, out))
whole_of kind before behind (Err ReadFailed) w = ([], w)
whole_of kind before behind (Err (WriteFailed count)) (c, is, part) = (response_bytes c, (c, (is, refl), part))
whole_of kind before behind (Err NoMemory) w = ([], w)

one_carries : (service : Service) (input : Option (List ℕ)) (k l : Keeper) (before behind : Stream) (served : Result Served HttpFault) → CarriesAt service input k l before behind served
    → (carried : Option Command) × (response : List ℕ) × CarriesOut service input k l before behind served carried response
one_carries service input k l before behind served h = of h.carried h.run.register h.asked h.written
  where
    of : (carried : Option Command) → l.register ≡ after_all k.register (with_asked carried []) → MayAskAt service input carried ⊎ (carried ≡ None)
        → IsWritten (IsToldAt service input carried k l) before behind served
        → (carried : Option Command) × (response : List ℕ) × CarriesOut service input k l before behind served carried response
    of None e asked w =
        let (response, written) = whole_of (IsToldAt service input None k l) before behind served w in
        (None, response, record { left = e; reply = tt; asked = asked; written = written })
    of (Some q) e asked w = (
      Some q,
      reply_bytes (Answer.reply (answer k.register q)),
      record {
        left = e;
        reply = refl;
        asked = asked;
        written = wider (IsToldAt service input (Some q) k l)
            (λ c. IsToldAt service input (Some q) k l c × (reply_bytes (Answer.reply (answer k.register q)) ≡ response_bytes c)) before behind served
            (λ c told. (told, sym (ap response_bytes told.1))) w;
      },
    )

-- ---- a run

one_more : (own : Bool) (reply : Reply) (texts : List (List ℕ)) (told : List Reply) → texts ≡ map reply_bytes told
    → (if own then reply_bytes reply ∷ texts else texts) ≡ map reply_bytes (if own then reply ∷ told else told)
one_more true reply texts told rest = ap (λ l. reply_bytes reply ∷ l) rest
one_more false reply texts told rest = rest

record Runs (R : Register) (carried : List (Option Command)) (responses : List (List ℕ)) (S : Register) : Type 0 where
  register : S ≡ after_all R (commands_asked carried)
  texts : (c : Id) → own_among c carried responses ≡ map reply_bytes (own_replies c (commands_asked carried) (replies R (commands_asked carried)))

run_step : (R S : Register) (command : Option Command) (later : List (Option Command)) (response : List ℕ) (others : List (List ℕ))
    → HasReply R command response → Runs (after_all R (with_asked command [])) later others S → Runs R (command ∷ later) (response ∷ others) S
unfolding commands_asked after_all replies own_among own_replies
run_step R S None later response others reply rest = record { register = rest.register; texts = rest.texts }
run_step R S (Some q) later response others reply rest = record {
  register = rest.register;
  texts = λ d.
      rw reply (one_more (is_own_command d q) (Answer.reply (answer R q)) (own_among d later others)
      (own_replies d (commands_asked later) (replies (after R q) (commands_asked later))) (rest.texts d));
}

module _ {D M L R W : Type 0} (by : registrar.Ghosts D) (net : loopback.Ghosts M L R W) (seen : Seen R W) (terms : Terms) (listener : L) where
  next_carries : (number : ℕ) (k k' : D) (errors errors' : Stream) (old new : M)
      → TakesNext by net seen terms listener number k k' errors errors' old new → IsGood (by.keeper k).register
      → (carried : Option Command) × (response : List ℕ) × CarriesNext by net seen terms listener number k k' errors errors' old new carried response
  next_carries number k k' errors errors' old new (inl it) good =
      let (carried, response, out) = one_carries _ _ (by.keeper k) (by.keeper k') _ _ it.served.0 (it.served.1.carries good) in (carried, response, inl (it, out))
  next_carries number k k' errors errors' old new (inr missed) good = (None, [], inr (missed, refl, refl))

  next_good : (number : ℕ) (k k' : D) (errors errors' : Stream) (old new : M)
      → TakesNext by net seen terms listener number k k' errors errors' old new → IsGood (by.keeper k).register → IsGood (by.keeper k').register
  next_good number k k' errors errors' old new (inl it) good = it.served.1.good good
  next_good number k k' errors errors' old new (inr (kind, missed, kept, reported, plain)) good = subst (λ (x : D). IsGood (by.keeper x).register) (sym kept) good

  first_good : (n : ℕ) (k k' : D) (errors errors' : Stream) (old new : M)
      → TakesFirst by net seen terms listener n k k' errors errors' old new → IsGood (by.keeper k).register → IsGood (by.keeper k').register
  unfolding TakesFirst
  first_good zero k k' errors errors' old new (same, kept, quiet) good = subst (λ (x : D). IsGood (by.keeper x).register) (sym kept) good
  first_good (suc n) k k' errors errors' old new (middle, between, reported, first, next, certain) good =
      next_good (n + 1) between k' reported errors' middle new next (first_good n k between errors reported old middle first good)

  record Carried (n : ℕ) (k k' : D) (errors errors' : Stream) (old new : M) : Type 0 where
    carried : List (Option Command)
    responses : List (List ℕ)
    each : CarriesAll by net seen terms listener 1 k k' errors errors' old new carried responses
    count : length carried ≡ n

  -- the first connections, and then the others: what all of them carry out
  first_carries : (n m : ℕ) (k k' l : D) (errors errors' last : Stream) (old new end : M) (later : List (Option Command)) (others : List (List ℕ))
      → TakesFirst by net seen terms listener n k k' errors errors' old new → IsGood (by.keeper k).register
      → CarriesAll by net seen terms listener (n + 1) k' l errors' last new end later others → length later + n ≡ m
      → Carried m k l errors last old end
  unfolding TakesFirst CarriesAll
  first_carries zero m k k' l errors errors' last old new end later others (same, kept, quiet) good rest count =
      let at_keeper : CarriesAll by net seen terms listener 1 k l errors' last new end later others =
      subst (λ (x : D). CarriesAll by net seen terms listener 1 x l errors' last new end later others) kept rest in
      let at_stream : CarriesAll by net seen terms listener 1 k l errors last new end later others =
      subst (λ (x : Stream). CarriesAll by net seen terms listener 1 k l x last new end later others) quiet at_keeper in
      record {
        carried = later;
        responses = others;
        each = subst (λ (x : M). CarriesAll by net seen terms listener 1 k l errors last x end later others) same at_stream;
        count = omega (arith, count);
      }
  first_carries (suc n) m k k' l errors errors' last old new end later others (middle, between, reported, first, next, certain) good rest count =
      let good_between = first_good n k between errors reported old middle first good in
      let (carried, response, step) = next_carries (n + 1) between k' reported errors' middle new next good_between in
      let number : suc n + 1 ≡ n + 1 + 1 = omega arith in
      let after : CarriesAll by net seen terms listener (n + 1 + 1) k' l errors' last new end later others =
      subst (λ (x : ℕ). CarriesAll by net seen terms listener x k' l errors' last new end later others) number rest in
      first_carries n m k between l errors reported last old middle end (carried ∷ later) (response ∷ others) first good
      (new, k', errors', step, after) (omega (arith, count))

  all_run : (number : ℕ) (k k' : D) (errors errors' : Stream) (old new : M) (carried : List (Option Command)) (responses : List (List ℕ))
      → CarriesAll by net seen terms listener number k k' errors errors' old new carried responses → Runs (by.keeper k).register carried responses (by.keeper k').register
  unfolding CarriesAll commands_asked after_all own_among replies own_replies
  all_run number k k' errors errors' old new [] [] (same, kept, quiet) = record { register = ap (λ (x : D). (by.keeper x).register) kept; texts = λ c. refl }
  all_run number k k' errors errors' old new (command ∷ later) (response ∷ others) (middle, between, reported, step, rest) =
      let more = all_run (number + 1) between k' reported errors' middle new later others rest in
      let one = left_by number k between errors reported old middle command response step in
      run_step (by.keeper k).register (by.keeper k').register command later response others one.1 (subst (λ (X : Register). Runs X later others (by.keeper k').register) one.0 more)
    where
      left_by : (number : ℕ) (k k' : D) (errors errors' : Stream) (old new : M) (command : Option Command) (response : List ℕ)
          → CarriesNext by net seen terms listener number k k' errors errors' old new command response
          → ((by.keeper k').register ≡ after_all (by.keeper k).register (with_asked command [])) × HasReply (by.keeper k).register command response
      left_by number k k' errors errors' old new command response (inl (it, out)) = (out.left, out.reply)
      left_by number k k' errors errors' old new None response (inr ((kind, missed, kept, reported, plain), none, empty)) = (ap (λ (x : D). (by.keeper x).register) kept, tt)
      left_by number k k' errors errors' old new (Some q) response (inr (missed, none, empty)) = cc none
  all_run number k k' errors errors' old new [] (response ∷ others) all = absurd all
  all_run number k k' errors errors' old new (command ∷ later) [] all = absurd all

  -- WHAT CONNECTIONS CARRY OUT IS A RUN
  carried_have_run : RunsChangeNoReply → RunsTakeNothing → RunsStandAlone → (n : ℕ) (k k' : D) (errors errors' : Stream) (old new : M)
      → Carried n k k' errors errors' old new → ConnectionsHaveRun by net seen terms listener n k k' errors errors' old new
  carried_have_run same nothing alone n k k' errors errors' old new all =
      let here = all_run 1 k k' errors errors' old new all.carried all.responses all.each in
      let told = replies (by.keeper k).register (commands_asked all.carried) in
      let run : IsRun (by.keeper k).register (commands_asked all.carried) told (by.keeper k').register = record { replied = refl; register = here.register } in
      record {
        carried = all.carried;
        responses = all.responses;
        each = all.each;
        count = all.count;
        told = told;
        run = record { run = run; responses_are = here.texts };
        headline = same (by.keeper k).register (commands_asked all.carried) told (by.keeper k').register run;
        untouched = nothing (by.keeper k).register (commands_asked all.carried);
        alone = alone (by.keeper k).register (commands_asked all.carried) told (by.keeper k').register run;
        safe = runs_are_safe (by.keeper k).register (commands_asked all.carried) told (by.keeper k').register run;
      }

  connections_have_run : RunsChangeNoReply → RunsTakeNothing → RunsStandAlone → (n : ℕ) (k k' : D) (errors errors' : Stream) (old new : M)
      → TakesFirst by net seen terms listener n k k' errors errors' old new → IsGood (by.keeper k).register
      → ConnectionsHaveRun by net seen terms listener n k k' errors errors' old new
  unfolding CarriesAll
  connections_have_run same nothing alone n k k' errors errors' old new taken good =
      let none : CarriesAll by net seen terms listener (n + 1) k' k' errors' errors' new new [] [] = (refl, refl, refl) in
      carried_have_run same nothing alone n k k' errors errors' old new
      (first_carries n n k k' k' errors errors' errors' old new new [] [] taken good none (omega arith))

  -- with one connection more
  one_more_has_run : RunsChangeNoReply → RunsTakeNothing → RunsStandAlone → (n : ℕ) (k between k' : D) (errors reported errors' : Stream) (old middle new : M)
      → TakesFirst by net seen terms listener n k between errors reported old middle
      → TakesNext by net seen terms listener (n + 1) between k' reported errors' middle new → IsGood (by.keeper k).register
      → ConnectionsHaveRun by net seen terms listener (n + 1) k k' errors errors' old new
  unfolding CarriesAll
  one_more_has_run same nothing alone n k between k' errors reported errors' old middle new taken next good =
      let (carried, response, step) = next_carries (n + 1) between k' reported errors' middle new next (first_good n k between errors reported old middle taken good) in
      let last : CarriesAll by net seen terms listener (n + 1) between k' reported errors' middle new (carried ∷ []) (response ∷ []) =
      (new, k', errors', step, (refl, refl, refl)) in
      carried_have_run same nothing alone (n + 1) k k' errors errors' old new
      (first_carries n (n + 1) k between k' errors reported errors' old middle new (carried ∷ []) (response ∷ []) taken good last (omega arith))

  -- and so it is once all were taken
  pub all_have_run : RunsChangeNoReply → RunsTakeNothing → RunsStandAlone → (n count : ℕ) → n ≤ count → count ≤ n → (k k' : D) (errors errors' : Stream)
      (old new : M) → TakesFirst by net seen terms listener n k k' errors errors' old new → IsGood (by.keeper k).register
      → ConnectionsHaveRun by net seen terms listener count k k' errors errors' old new
  all_have_run same nothing alone n count most all k k' errors errors' old new taken good =
      let end : n ≡ count = omega (arith, most, all) in
      subst (λ (x : ℕ). ConnectionsHaveRun by net seen terms listener x k k' errors errors' old new) end
      (connections_have_run same nothing alone n k k' errors errors' old new taken good)

  -- and so it is of those that were taken before a desk's server ended
  pub ended_early : RunsChangeNoReply → RunsTakeNothing → RunsStandAlone → (n : ℕ) → n < terms.count → (k between k' : D) (errors reported errors' : Stream)
      (old middle new : M) → TakesFirst by net seen terms listener n k between errors reported old middle
      → (kind : ErrorKind) → net.misses middle listener (tries_of terms.service.desk) kind new → terms.service.desk ≡ true → k' ≡ between → errors' ≡ reported
      → EndsUntaken by net seen terms listener k k' errors errors' old new
  ended_early same nothing alone n short k between k' errors reported errors' old middle new taken kind missed desk kept quiet =
      let at_keeper = subst (λ (x : D). TakesFirst by net seen terms listener n k x errors reported old middle) (sym kept) taken in
      let here = subst (λ (x : Stream). TakesFirst by net seen terms listener n k k' errors x old middle) (sym quiet) at_keeper in (
        n,
        short,
        record { middle = middle; taken = here; kind = kind; missed = missed; desk = desk },
        λ good. connections_have_run same nothing alone n k k' errors errors' old middle here good,
      )

  -- and of those that were taken where the last left a change in doubt
  pub ended_in_doubt : RunsChangeNoReply → RunsTakeNothing → RunsStandAlone → (n : ℕ) → n < terms.count → (k between k' : D) (errors reported errors' : Stream)
      (old middle new : M) → TakesFirst by net seen terms listener n k between errors reported old middle
      → TakesNext by net seen terms listener (n + 1) between k' reported errors' middle new → by.doubts k' ≡ true
      → EndsDoubting by net seen terms listener k k' errors errors' old new
  ended_in_doubt same nothing alone n short k between k' errors reported errors' old middle new taken last doubt = (
    n,
    short,
    record { between = between; reported = reported; middle = middle; taken = taken; last = last; doubt = doubt },
    λ good. one_more_has_run same nothing alone n k between k' errors reported errors' old middle new taken last good,
  )

-- a server that could not take its next connection
pub ends_untaken : {D M L R W : Type 0} (by : registrar.Ghosts D) (net : loopback.Ghosts M L R W) (seen : Seen R W) (terms : Terms) (listener : L)
    (k k' : D) (errors errors' : Stream) (old new : M) (fault : Fault) (result : Done) → fault ≡ Accept → IsErrAnd result (λ cause. cause ≡ fault)
    → EndsUntaken by net seen terms listener k k' errors errors' old new
    → IfErr result (λ cause. EndsEarly by net seen terms listener cause k k' errors errors' old new)
ends_untaken by net seen terms listener k k' errors errors' old new fault (Ok value) accept is ended = tt
ends_untaken by net seen terms listener k k' errors errors' old new fault (Err cause) accept is ended = inl (is ∙ accept, ended)

-- ---- two runs

pub runs_get_the_same : RunsChangeNoReply → RunsGetTheSame
runs_get_the_same law c inside R S T U carried wanted responses answers told replied one two shown =
    let end = law R (commands_asked carried) told S one.run c inside T (commands_asked wanted) shown in
    let own : own_replies c (commands_asked carried) told ≡ own_replies c (commands_asked wanted) replied =
    end.replies ∙ sym (own_replies_are c T (commands_asked wanted)) ∙ ap (own_replies c (commands_asked wanted)) (sym two.run.replied) in (
      one.responses_are c ∙ ap (map reply_bytes) own ∙ sym (two.responses_are c),
      subst (λ (X : Register). Agree c inside S X) (sym two.run.register) end.agree,
    )
