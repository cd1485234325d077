-- Requests as the run of the commands of them that are carried out.
use Rattle.std.proofs.Common.{◌≡◌, ◌≢◌, ◌≤◌, ◌∙◌, ◌+◌, ℕ, Bool, true, false, List, [], ◌∷◌, ◌++◌, Option, None, Some, refl, sym, ap, arith, subst, inl, inr, map, length, length-append}
use Rattle.std.specs.Prelude.{if◌then◌else◌, filter, Result, Ok, Err}
use Rattle.httparse.proofs.GrammarLemmas.{request_unique}
use Rattle.clr_stream.specs.Streams.{Stream}
use Rattle.clr_rules.specs.Agreement.{Agree}
use Rattle.clr_rules.specs.Answer.{Answer, answer}
use Rattle.clr_rules.specs.Id.{Id}
use Rattle.clr_rules.specs.Isolation.{LeftAlone, NothingIsTakenAway, OwnCommandsAlone, SameShownSameAnswers, is_others}
use Rattle.clr_rules.specs.Register.{Register}
use Rattle.clr_rules.specs.Run.{after, after_all, replies}
use Rattle.clr_rules.specs.RunHeadline.{RunsChangeNoReply, RunsStandAlone, RunsTakeNothing, own_replies}
use Rattle.clr_rules.specs.Shown.{is_own_command, own_answers}
use Rattle.clr_rules.specs.declared.command.Command.{Command}
use Rattle.clr_rules.specs.declared.reply.Reply.{Reply}
use Rattle.clr_rules.proofs.edits.Runs.{runs_go_on}
use Rattle.clr_rules.proofs.good.CrewSafety.{runs_are_safe}
use Rattle.clr_rules.proofs.isolation.RunReplies.{own_replies_are}
use Rattle.clr_text.specs.Reading.{read_command}
use Rattle.clr_text.specs.declared.fault.TextFault.{TextFault}
use Rattle.clr_http.proofs.Connections.{of_kind, wider}
use Rattle.clr_http.proofs.Turns.{IsLeft}
use Rattle.clr_http.specs.Asked.{AsksAt, MayAskAt, asked_in_at, body_asks, commands_asked, is_own_request, own_among, own_asked, reading_asks, reply_bytes, target_asks, view_asks, with_asked}
use Rattle.clr_http.specs.Carried.{CarriesAt, IsToldAt}
use Rattle.clr_http.specs.Options.{plain}
use Rattle.clr_http.specs.Registrar.{AccountsFor, IsTurn, Keeper}
use Rattle.clr_http.specs.Request.{IsReading, Reading, asks, refusal_of, refused, request_read_at}
use Rattle.clr_http.specs.RequestLaws.{AskedOnce, CommandsAreAnswered, ComesWithin, HasRun, OnlyCommandsChange, OthersRequestsTakeNothing, OwnRequestsAlone, RequestsAreRuns, SameShownSameResponses}
use Rattle.clr_http.specs.Respond.{Outcome, RespondsAt, body_outcome, order_outcome, reading_outcome, reply_response, respond_at, show_of, target_outcome, view_outcome, way_back_outcome}
use Rattle.clr_http.specs.Response.{Content, content_of, response_bytes, status_of}
use Rattle.clr_http.specs.Served.{IsWritten}
use Rattle.clr_http.specs.Service.{IsExchange, ServesAll}
use Rattle.clr_http.specs.declared.head.HeadFault.{HeadFault}
use Rattle.clr_http.specs.declared.options.Service.{Service}
use Rattle.clr_http.specs.declared.response.Response.{Response}
use Rattle.clr_http.specs.declared.serve.HttpFault.{HttpFault}
use Rattle.clr_http.specs.declared.serve.HttpFault.TheVariants.{NoMemory}
use Rattle.clr_http.specs.declared.serve.Served.{Served}
use Rattle.clr_http.specs.declared.target.Target.{Target}
use Rattle.clr_http.specs.declared.target.Target.TheVariants as asked
use Rattle.clr_http.specs.declared.target.OrderRequest.{OrderRequest}
use Rattle.clr_http.specs.declared.target.ViewRequest.{ViewRequest}
use Rattle.clr_http.specs.declared.head.HeadFault.TheVariants as head_fault

-- ---- one request

-- an outcome is that of what is asked: the register after the command, and the response to it
after_asked : Register → Option Command → Register
after_asked R None = R
after_asked R (Some q) = after R q

Answers : Register → Option Command → Content → Type 0
Answers R None c = Unit {0}
Answers R (Some q) c = c ≡ reply_response (Answer.reply (answer R q))

record IsOf (R : Register) (command : Option Command) (o : Outcome) : Type 0 where
  left : o.left ≡ after_asked R command
  answers : Answers R command o.response

nothing_asked : (R : Register) (o : Outcome) → o.left ≡ R → IsOf R None o
unfolding after_asked Answers
nothing_asked R o e = record { left = e; answers = tt }

of_command : (R : Register) (q : Command) (o : Outcome) → o.left ≡ after R q → o.response ≡ reply_response (Answer.reply (answer R q)) → IsOf R (Some q) o
unfolding after_asked Answers
of_command R q o e f = record { left = e; answers = f }

of_body : (R : Register) (read : Result Command TextFault) → IsOf R (body_asks read) (body_outcome R read)
of_body R (Ok q) = of_command R q _ refl refl
of_body R (Err fault) = nothing_asked R _ refl

of_view : (R : Register) (viewing : Option ViewRequest) → IsOf R (view_asks viewing) (view_outcome R viewing)
of_view R None = nothing_asked R _ refl
of_view R (Some v) = of_command R (show_of v) _ refl refl

of_order : (R : Register) (printing : Option OrderRequest) → IsOf R None (order_outcome R printing)
of_order R None = nothing_asked R _ refl
of_order R (Some p) = nothing_asked R _ refl

of_way_back : (R : Register) (id : Option Id) → IsOf R None (way_back_outcome R id)
of_way_back R None = nothing_asked R _ refl
of_way_back R (Some c) = nothing_asked R _ refl

of_target : (R : Register) (target : Target) (body : List ℕ) → IsOf R (target_asks target body) (target_outcome R target body)
of_target R asked.Command body = of_body R (read_command body)
of_target R (asked.Clearance viewing) body = of_view R viewing
of_target R (asked.Order printing) body = of_order R printing
of_target R asked.Board body = nothing_asked R _ refl
of_target R asked.Network body = nothing_asked R _ refl
of_target R (asked.WayBack id) body = of_way_back R id

of_reading : (R : Register) (reading : Reading) → IsOf R (reading_asks reading) (reading_outcome R reading)
of_reading R (refused c) = nothing_asked R _ refl
of_reading R (asks target body) = of_target R target body

module _ (service : Service) where
  asks_once : (input : List ℕ) (one other : Option Command) → AsksAt service input one → AsksAt service input other → one ≡ other
  asks_once input one other (inl (head, rest, b, e)) (inl (k, left, c, f)) =
      let (same, behind) = request_unique input head k rest left b.reads c.reads in
      e ∙ (ap (λ h. asked_in_at service h rest) same ∙ ap (asked_in_at service k) behind) ∙ sym f
  asks_once input one other (inl (head, rest, b, e)) (inr (none, f)) = absurd (none (head, rest, b))
  asks_once input one other (inr (none, e)) (inl (k, left, c, f)) = absurd (none (k, left, c))
  asks_once input one other (inr (none, e)) (inr (again, f)) = e ∙ sym f

  of_input : (R : Register) (input : List ℕ) (o : Outcome) (command : Option Command) → RespondsAt service R input o → AsksAt service input command → IsOf R command o
  of_input R input o command (head, rest, b, e) asking =
      let same : asked_in_at service head rest ≡ command = asks_once input (asked_in_at service head rest) command (inl (head, rest, b, refl)) asking in
      let here : IsOf R (asked_in_at service head rest) (respond_at service R head rest) = of_reading R (request_read_at service head rest) in
      subst (λ (x : Option Command). IsOf R x o) same (subst (λ (x : Outcome). IsOf R (asked_in_at service head rest) x) (sym e) here)

  none_changes : (R : Register) (input : List ℕ) (o : Outcome) → RespondsAt service R input o → AsksAt service input None → o.left ≡ R
  unfolding after_asked
  none_changes R input o responds asking = (of_input R input o None responds asking).left

  command_answered : (R : Register) (input : List ℕ) (q : Command) (o : Outcome) → RespondsAt service R input o → AsksAt service input (Some q)
      → (o.response ≡ reply_response (Answer.reply (answer R q))) × (o.left ≡ after R q)
  unfolding after_asked Answers
  command_answered R input q o responds asking =
      let here = of_input R input o (Some q) responds asking in
      (here.answers, here.left)

pub asked_once : AskedOnce
asked_once = asks_once plain

pub only_commands_change : OnlyCommandsChange
only_commands_change = none_changes plain

pub commands_are_answered : CommandsAreAnswered
commands_are_answered = command_answered plain

-- ---- a list of requests

one_more : (own : Bool) (reply : Reply) (texts : List (List ℕ)) (told : List Reply) → texts ≡ map reply_bytes told
    → (if own then reply_bytes reply ∷ texts else texts) ≡ map reply_bytes (if own then reply ∷ told else told)
one_more true reply texts told rest = ap (λ l. reply_bytes reply ∷ l) rest
one_more false reply texts told rest = rest

record Runs (R : Register) (carried : List (Option Command)) (responses : List (List ℕ)) (S : Register) : Type 0 where
  register : S ≡ after_all R (commands_asked carried)
  texts : (c : Id) → own_among c carried responses ≡ map reply_bytes (own_replies c (commands_asked carried) (replies R (commands_asked carried)))

-- what one input comes to: the register after the command of it that is carried out, and its reply
IsReply : Register → Option Command → List ℕ → Type 0
IsReply R None bytes = Unit {0}
IsReply R (Some q) bytes = bytes ≡ reply_bytes (Answer.reply (answer R q))

record IsStep (R : Register) (carried : Option Command) (bytes : List ℕ) (S : Register) : Type 0 where
  left : S ≡ after_asked R carried
  reply : IsReply R carried bytes

reply_of : (R : Register) (carried : Option Command) (c : Content) (bytes : List ℕ) → Answers R carried c → bytes ≡ response_bytes c → IsReply R carried bytes
unfolding Answers IsReply
reply_of R None c bytes answers e = tt
reply_of R (Some q) c bytes answers e = e ∙ ap response_bytes answers

none_carried : (R S : Register) (carried : Option Command) (bytes : List ℕ) → carried ≡ None → S ≡ R → IsStep R carried bytes S
unfolding after_asked IsReply
none_carried R S None bytes e same = record { left = same; reply = tt }
none_carried R S (Some q) bytes e same = cc e

of_exchange : (k l : Keeper) (input : List ℕ) (carried : Option Command) (bytes : List ℕ) → IsExchange k l input carried bytes → IsStep k.register carried bytes l.register
of_exchange k l input carried bytes (inl r) =
    let here = of_input plain k.register input r.outcome carried r.responds r.asks in
    record { left = r.register ∙ here.left; reply = reply_of k.register carried r.outcome.response bytes here.answers r.response }
of_exchange k l input carried bytes (inr (inl (none, is, counts))) = none_carried k.register l.register carried bytes none counts.0
of_exchange k l input carried bytes (inr (inr (none, headless, same))) =
    none_carried k.register l.register carried bytes none (ap (λ (x : Keeper). x.register) same)

run_step : (R S : Register) (command : Option Command) (later : List (Option Command)) (bytes : List ℕ) (told : List (List ℕ))
    → IsReply R command bytes → Runs (after_asked R command) later told S → Runs R (command ∷ later) (bytes ∷ told) S
unfolding after_asked IsReply commands_asked after_all replies own_among own_replies
run_step R S None later bytes told reply rest = record { register = rest.register; texts = rest.texts }
run_step R S (Some q) later bytes told here rest = record {
  register = rest.register;
  texts = λ d.
      rw here (one_more (is_own_command d q) (Answer.reply (answer R q)) (own_among d later told)
      (own_replies d (commands_asked later) (replies (after R q) (commands_asked later))) (rest.texts d));
}

runs : (k l : Keeper) (inputs responses : List (List ℕ)) (carried : List (Option Command)) → ServesAll k inputs carried responses l
    → Runs k.register carried responses l.register
unfolding ServesAll commands_asked after_all own_among replies own_replies
runs k l [] [] [] all = record { register = ap (λ (x : Keeper). x.register) all; texts = λ c. refl }
runs k l (input ∷ inputs) (bytes ∷ told) (command ∷ later) (m, exchange, all) =
    let here = of_exchange k m input command bytes exchange in
    let rest : Runs (after_asked k.register command) later told l.register =
    subst (λ (X : Register). Runs X later told l.register) here.left (runs m l inputs told later all) in
    run_step k.register l.register command later bytes told here.reply rest
runs k l [] (bytes ∷ told) [] all = absurd all
runs k l [] texts (command ∷ later) all = absurd all
runs k l (input ∷ inputs) texts [] all = absurd all
runs k l (input ∷ inputs) [] (command ∷ later) all = absurd all

pub requests_are_runs : RequestsAreRuns
requests_are_runs k l inputs responses carried all =
    let here = runs k l inputs responses carried all in
    record { run = record { replied = refl; register = here.register }; responses_are = here.texts }

own_texts : (c : Id) (R S : Register) (asked : List (Option Command)) (responses : List (List ℕ)) → Runs R asked responses S
    → own_among c asked responses ≡ map reply_bytes (map (λ (a : Answer). a.reply) (own_answers c R (commands_asked asked)))
own_texts c R S asked responses here = here.texts c ∙ ap (map reply_bytes) (own_replies_are c R (commands_asked asked))

pub same_responses : SameShownSameAnswers → SameShownSameResponses
same_responses law c inside k l m n inputs others responses answers carried wanted all more shown =
    let R = k.register in
    let T = m.register in
    let one = runs k l inputs responses carried all in
    let two = runs m n others answers wanted more in
    let end = law c inside R T (commands_asked carried) (commands_asked wanted) shown in
    let texts : own_among c carried responses ≡ own_among c wanted answers =
    own_texts c R l.register carried responses one ∙ ap (λ a. map reply_bytes (map (λ (x : Answer). x.reply) a)) end.0
    ∙ sym (own_texts c T n.register wanted answers two) in
    let first : Agree c inside l.register (after_all T (commands_asked wanted)) =
    subst (λ (X : Register). Agree c inside X (after_all T (commands_asked wanted))) (sym one.register) end.1 in
    (texts, subst (λ (X : Register). Agree c inside l.register X) (sym two.register) first)

pub others_take_nothing : NothingIsTakenAway → OthersRequestsTakeNothing
unfolding after_asked
others_take_nothing law k l m inputs responses carried c input bytes q good all exchange others =
    let here = runs k l inputs responses carried all in
    let left : m.register ≡ after l.register q = (of_exchange l m input (Some q) bytes exchange).left in
    let about : is_others c (after_all k.register (commands_asked carried)) q ≡ true =
    subst (λ (X : Register). is_others c X q ≡ true) here.register others in
    let alone = law k.register (commands_asked carried) c q good about in
    let at : LeftAlone c l.register (after l.register q) = subst (λ (X : Register). LeftAlone c X (after X q)) (sym here.register) alone in
    subst (λ (X : Register). LeftAlone c l.register X) (sym left) at

-- ---- own requests alone

own_commands : (c : Id) (asked : List (Option Command)) → commands_asked (own_asked c asked) ≡ filter (is_own_command c) (commands_asked asked)
unfolding commands_asked
own_commands c [] = refl
own_commands c (None ∷ later) = own_commands c later
own_commands c ((Some q) ∷ later) = kept (is_own_command c q) (own_commands c later)
  where
    kept : (own : Bool) → commands_asked (own_asked c later) ≡ filter (is_own_command c) (commands_asked later)
        → commands_asked (if own then Some q ∷ own_asked c later else own_asked c later)
        ≡ (if own then q ∷ filter (is_own_command c) (commands_asked later) else filter (is_own_command c) (commands_asked later))
    kept true rest = ap (λ l. q ∷ l) rest
    kept false rest = rest

-- of own requests alone, all responses are theirs
AllOwn : Id → List (Option Command) → Type 0
AllOwn c [] = Unit {0}
AllOwn c (command ∷ later) = (is_own_request c command ≡ true) × AllOwn c later

kept_own : (c : Id) (asked : List (Option Command)) → AllOwn c (own_asked c asked)
unfolding AllOwn
kept_own c [] = tt
kept_own c (command ∷ later) = step (is_own_request c command) refl (kept_own c later)
  where
    step : (own : Bool) → is_own_request c command ≡ own → AllOwn c (own_asked c later)
        → AllOwn c (if own then command ∷ own_asked c later else own_asked c later)
    step true e rest = (e, rest)
    step false e rest = rest

own_all : (c : Id) (asked : List (Option Command)) (inputs texts : List (List ℕ)) (k l : Keeper) → AllOwn c asked
    → ServesAll k inputs asked texts l → own_among c asked texts ≡ texts
unfolding AllOwn ServesAll own_among
own_all c [] [] [] k l own all = refl
own_all c (command ∷ later) (input ∷ inputs) (text ∷ texts) k l (mine, own) (m, exchange, all) =
    rw mine (ap (λ t. text ∷ t) (own_all c later inputs texts m l own all))
own_all c [] [] (text ∷ texts) k l own all = absurd all
own_all c (command ∷ later) [] texts k l own all = absurd all
own_all c [] (input ∷ inputs) texts k l own all = absurd all
own_all c (command ∷ later) (input ∷ inputs) [] k l own all = absurd all

pub own_requests_alone : OwnCommandsAlone → OwnRequestsAlone
own_requests_alone law c inside k l m n inputs responses alone carried all shows same lone =
    let R = k.register in
    let texts : List Answer → List (List ℕ) = λ answers. map reply_bytes (map (λ (a : Answer). a.reply) answers) in
    let whole = runs k l inputs responses carried all in
    let first : Runs m.register (own_asked c carried) alone n.register = runs m n (own_among c carried inputs) alone (own_asked c carried) lone in
    let part : Runs R (own_asked c carried) alone n.register = subst (λ (X : Register). Runs X (own_asked c carried) alone n.register) same first in
    own_texts c R l.register carried responses whole
    ∙ ap texts (law c inside R (commands_asked carried) shows)
    ∙ ap (λ commands. texts (own_answers c R commands)) (sym (own_commands c carried))
    ∙ sym (own_texts c R n.register (own_asked c carried) alone part)
    ∙ own_all c (own_asked c carried) (own_among c carried inputs) alone m n (kept_own c carried) lone

-- ---- what was served

pub has_run : RunsChangeNoReply → RunsTakeNothing → RunsStandAlone → (k l : Keeper) (inputs responses : List (List ℕ)) (carried : List (Option Command))
    → ServesAll k inputs carried responses l → HasRun k inputs responses l
has_run same nothing alone k l inputs responses carried all =
    let R = k.register in
    let here = requests_are_runs k l inputs responses carried all in
    record {
      carried = carried;
      served = all;
      told = replies R (commands_asked carried);
      run = here;
      headline = same R (commands_asked carried) (replies R (commands_asked carried)) l.register here.run;
      untouched = nothing R (commands_asked carried);
      alone = alone R (commands_asked carried) (replies R (commands_asked carried)) l.register here.run;
      safe = runs_are_safe R (commands_asked carried) (replies R (commands_asked carried)) l.register here.run;
    }

-- at most one command was carried out
pub carried_one : {service : Service} (input : Option (List ℕ)) (k l : Keeper) (before behind : Stream) (result : Result Served HttpFault)
    → CarriesAt service input k l before behind result → ComesWithin 1 k.register l.register
unfolding after_all
carried_one input k l before behind result carries = at_most carries.carried carries.run.register
  where
    at_most : (carried : Option Command) → l.register ≡ after_all k.register (with_asked carried []) → ComesWithin 1 k.register l.register
    at_most None e = ([], omega arith, e)
    at_most (Some q) e = (q ∷ [], omega arith, e)

pub comes_itself : (R : Register) → ComesWithin 0 R R
unfolding after_all
comes_itself R = ([], omega arith, refl)

-- some commands more
pub comes_further : (n m : ℕ) (R S T : Register) → ComesWithin n R S → ComesWithin 1 S T → n + 1 ≤ m → ComesWithin m R T
comes_further n m R S T (commands, few, e) (more, one, f) le =
    let joined = runs_go_on R commands more in
    let most : length (commands ++ more) ≤ m = rw (length-append commands more) (omega (arith, few, one, le)) in
    (commands ++ more, most, f ∙ (ap (λ (X : Register). after_all X more) e ∙ sym joined.register))

pub comes_within : (n m : ℕ) (R S : Register) → ComesWithin n R S → n ≤ m → ComesWithin m R S
comes_within n m R S (commands, few, e) le = (commands, omega (arith, few, le), e)

-- ---- what one turn carries out

-- a command that may be asked is carried out, or none is and there is none
carried_of : (service : Service) (input : Option (List ℕ)) (old new : Keeper) (before behind : Stream) (result : Result Served HttpFault) (command : Option Command) (o : Outcome)
    → IsOf old.register command o → MayAskAt service input command → new.register ≡ o.left
    → IsWritten (λ c. (c ≡ o.response) × (status_of c ≢ 503) × (new.faults ≡ old.faults)) before behind result → CarriesAt service input old new before behind result
unfolding after_asked Answers replies after_all
carried_of service input old new before behind result None o of may left w = record {
  carried = None;
  told = [];
  run = record { replied = refl; register = left ∙ of.left };
  asked = inl may;
  written = wider _ _ _ _ _ (λ c (same, other, faults). (left ∙ of.left, inl (may, other, faults))) w;
}
carried_of service input old new before behind result (Some q) o of may left w = record {
  carried = Some q;
  told = Answer.reply (answer old.register q) ∷ [];
  run = record { replied = refl; register = left ∙ of.left };
  asked = inl may;
  written = wider _ _ _ _ _ (λ c (same, other, faults). (may, same ∙ of.answers, left ∙ of.left, faults)) w;
}

-- none is, and what goes out says so
pub none_of : (service : Service) (input : Option (List ℕ)) (old new : Keeper) (before behind : Stream) (result : Result Served HttpFault)
    → new.register ≡ old.register → IsWritten (IsToldAt service input None old new) before behind result → CarriesAt service input old new before behind result
unfolding replies after_all
none_of service input old new before behind result same w = record {
  carried = None;
  told = [];
  run = record { replied = refl; register = same };
  asked = inr refl;
  written = w;
}

-- a turn whose response was made
pub turn_carries : (service : Service) (input : Option (List ℕ)) (old new : Keeper) (before behind : Stream) (result : Result Served HttpFault) (reading : Reading) (r : Response)
    → MayAskAt service input (reading_asks reading) → IsTurn (reading_outcome old.register reading) old new (content_of r) → AccountsFor old new (Ok r)
    → IsWritten (λ c. c ≡ content_of r) before behind result → CarriesAt service input old new before behind result
turn_carries service input old new before behind result reading r may turn (inr (is, counts)) w =
    none_of service input old new before behind result counts.0
    (of_kind (IsToldAt service input None old new) (content_of r) before behind result (counts.0, inr (ap content_of is, counts)) w)
turn_carries service input old new before behind result reading r may (inr (is, counts)) (inl (other, faults)) w = absurd (other (ap status_of is))
turn_carries service input old new before behind result reading r may (inl (same, left, kept)) (inl (other, faults)) w =
    carried_of service input old new before behind result (reading_asks reading) (reading_outcome old.register reading)
    (of_reading old.register reading) may left
    (of_kind (λ c. (c ≡ Outcome.response (reading_outcome old.register reading)) × (status_of c ≢ 503) × (new.faults ≡ old.faults)) (content_of r) before behind result
    (same, other, faults) w)

-- one for whose response memory ran out
pub unmade_carries : (service : Service) (input : Option (List ℕ)) (old new : Keeper) (stream : Stream) (reading : Reading)
    → MayAskAt service input (reading_asks reading) → IsLeft (reading_outcome old.register reading) old.register new.register
    → CarriesAt service input old new stream stream (Err NoMemory)
unmade_carries service input old new stream reading may (inl e) = none_of service input old new stream stream (Err NoMemory) e refl
unmade_carries service input old new stream reading may (inr e) =
    carried_of service input old new stream stream (Err NoMemory) (reading_asks reading) (reading_outcome old.register reading)
    (of_reading old.register reading) may e refl

-- ---- what is read asks

refusal_asks : (e : HeadFault) (reading : Reading) → refusal_of e ≡ Some reading → reading_asks reading ≡ None
refusal_asks e reading is = of_some (refusal_of e) is (refused_asks e)
  where
    ask : Option Reading → Option Command
    ask None = None
    ask (Some x) = reading_asks x

    refused_asks : (e : HeadFault) → ask (refusal_of e) ≡ None
    refused_asks head_fault.BadHead = refl
    refused_asks head_fault.HeadTooLarge = refl
    refused_asks head_fault.HeadCut = refl
    refused_asks head_fault.ReadFailed = refl
    refused_asks head_fault.NoMemory = refl

    of_some : (o : Option Reading) → o ≡ Some reading → ask o ≡ None → reading_asks reading ≡ None
    of_some o is none = sym (ap ask is) ∙ none

pub reading_may_ask : (service : Service) (known left : Option (List ℕ)) (reading : Reading) → ((input : List ℕ) → known ≡ Some input → IsReading service input left reading)
    → MayAskAt service known (reading_asks reading)
reading_may_ask service None left reading reads = tt
reading_may_ask service (Some input) left reading reads = asked (reads input refl)
  where
    asked : IsReading service input left reading → AsksAt service input (reading_asks reading)
    asked (inl (head, rest, b, e)) = inl (head, rest, b, ap reading_asks e)
    asked (inr (none, (taken, consumed, e, is, explained))) = inr (none, refusal_asks e reading is)
