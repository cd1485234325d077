-- Inputs one after the other: what one came to, and one more after the others.
use Rattle.std.proofs.Common.{◌≡◌, ◌≤◌, ◌<◌, ◌+◌, ◌-◌, ◌^◌, ◌∙◌, ℕ, suc, List, [], ◌∷◌, ◌++◌, Option, None, Some, inl, inr, refl, sym, ap, subst, arith, get_or, length, map, take, Ok, unwrap_or}
use Rattle.std.proofs.lemmas.List.{get_or-map, length-map, map-append, take_all, take_more}
use Rattle.std.specs.Io.KnownBytes.{Appends}
use Rattle.httparse.proofs.GrammarLemmas.{request_unique}
use Rattle.clr_stream.specs.Failures.{one_more}
use Rattle.clr_stream.specs.Streams.{Stream}
use Rattle.clr_rules.proofs.Common.{Register, IsGood}
use Rattle.clr_rules.specs.declared.command.Command.{Command}
use Rattle.clr_http.proofs.RequestRuns.{commands_are_answered}
use Rattle.clr_http.proofs.Requests.{at_end, no_head}
use Rattle.clr_http.specs.Answered.{IsAnswered, Source}
use Rattle.clr_http.specs.Asked.{AskEach, Asks}
use Rattle.clr_http.specs.Carried.{IsTold}
use Rattle.clr_http.specs.Head.{HasHead}
use Rattle.clr_http.specs.Registrar.{IsTurn, Keeper}
use Rattle.clr_http.specs.RequestLaws.{AnswersAreServed, ServedAreAnswers}
use Rattle.clr_http.specs.Respond.{Outcome, Responds, respond_to}
use Rattle.clr_http.specs.Response.{Content, response_bytes}
use Rattle.clr_http.specs.Served.{IsServed}
use Rattle.clr_http.specs.Service.{AnsweredOnce, IsExchange, IsResponded, RespondsAll, ServesAll}
use Rattle.clr_http.specs.declared.serve.Served.{Served}
use Rattle.clr_http.specs.declared.serve.Served.TheVariants.{Answered, Nothing}

pub answered_once : AnsweredOnce
answered_once R input o other (head, rest, b, e) (k, left, c, f) =
    let (one, two) = request_unique input head k rest left b.reads c.reads in
    e ∙ (ap (λ h. respond_to R h rest) one ∙ ap (respond_to R k) two) ∙ sym f

-- ---- one input over memory

some_is : (xs ys : List ℕ) → Some xs ≡ Some ys → xs ≡ ys
some_is xs ys e = ap (λ o. unwrap_or o []) e

appended : (before behind : Option (List ℕ)) (bytes more : List ℕ) → before ≡ Some [] → behind ≡ Some bytes → Appends before behind more → bytes ≡ more
appended None behind bytes more e f a = cc e
appended (Some xs) None bytes more e f a = absurd a
appended (Some xs) (Some ys) bytes more e f a = sym (some_is ys bytes f) ∙ a ∙ rw (some_is xs [] e) refl

module _ (old new : Keeper) (input bytes : List ℕ) where
  -- a request that was answered as the definitions say, or with the 503
  turned : (carried : Option Command) (o : Outcome) (c : Content) → Responds old.register input o → Asks input carried → bytes ≡ response_bytes c
      → IsTurn o old new c → carried ≡ None → IsExchange old new input carried bytes
  turned carried o c responds asks sent (inl (same, left, faults)) none =
      inl (record { outcome = o; responds = responds; asks = asks; response = sent ∙ ap response_bytes same; register = left; faults = faults })
  turned carried o c responds asks sent (inr (is, counts)) none = inr (inl (none, sent ∙ ap response_bytes is, counts))

  replied : (q : Command) (c : Content) → Asks input (Some q) → bytes ≡ response_bytes c → IsTold (Some input) (Some q) old new c
      → IsExchange old new input (Some q) bytes
  replied q c (inr (headless, e)) sent told = cc e
  replied q c (inl (head, rest, b, is)) sent (may, same, left, faults) =
      let o = respond_to old.register head rest in
      let (response, register) = commands_are_answered old.register input q o (head, rest, b, refl) may in
      inl (record {
        outcome = o;
        responds = (head, rest, b, refl);
        asks = may;
        response = sent ∙ ap response_bytes (same ∙ sym response);
        register = left ∙ sym register;
        faults = faults;
      })

module _ (old new : Keeper) (source left : Source) (before behind : Stream) (input bytes : List ℕ) (known : source.remaining ≡ Some input)
    (begun : before.contents ≡ Some []) (ended : behind.contents ≡ Some bytes) where
  -- by the command that was carried out
  told_one : (status : ℕ) (carried : Option Command) (c : Content) → IsAnswered old new source left before behind (Ok (Answered status)) → IsGood old.register
      → bytes ≡ response_bytes c → IsTold (Some input) carried old new c → IsExchange old new input carried bytes
  told_one status (Some q) c a good sent told = replied old new input bytes q c told.0 sent told
  told_one status None c a good sent (same, inr (is, counts)) = inr (inl (refl, sent ∙ ap response_bytes is, counts))
  told_one status None c a good sent (same, inl (inl (head, rest, b, e), other, faults)) =
      let (d, turn, status_is, out) = IsServed.written (a.served input rest head known b good) in
      turned old new input bytes None (respond_to old.register head rest) d (head, rest, b, refl) (inl (head, rest, b, e))
      (appended before.contents behind.contents bytes (response_bytes d) begun ended out.contents) turn refl
  told_one status None c a good sent (same, inl (inr (none, e), other, faults)) =
      let ((d, refusal, status_is, out), kept) = a.refused input known none in
      inr (inr (refl, (none, inr (left.remaining, d, refusal, appended before.contents behind.contents bytes (response_bytes d) begun ended out.contents)), kept))

  -- a connection over memory that was answered
  pub exchanged : (served : Served) → IsAnswered old new source left before behind (Ok served) → IsGood old.register
      → (carried : Option Command) × IsExchange old new input carried bytes
  exchanged Nothing a good =
      let (end, same, kept) = a.nothing refl in
      let none : input ≡ [] = at_end source.remaining input known end in
      let out : bytes ≡ [] = some_is bytes [] (sym ended ∙ (ap (λ (s : Stream). s.contents) same ∙ begun)) in
      (None, inr (inr (refl, (no_head input none, inl (none, out)), kept)))
  exchanged (Answered status) a good =
      let carries = a.carries good in
      let (c, told, status_is, out) = carries.written in
      let sent : bytes ≡ response_bytes c = appended before.contents behind.contents bytes (response_bytes c) begun ended out.contents in
      (carries.carried, told_one status carries.carried c a good sent (subst (λ (x : Option (List ℕ)). IsTold x carries.carried old new c) known told))

-- ---- a list of inputs

-- one input more
pub served_more : (k l m : Keeper) (input bytes : List ℕ) (carried : Option Command) (inputs told : List (List ℕ)) (earlier : List (Option Command))
    → ServesAll k inputs earlier told l → IsExchange l m input carried bytes → ServesAll k (inputs ++ input ∷ []) (earlier ++ carried ∷ []) (told ++ bytes ∷ []) m
unfolding ServesAll
served_more k l m input bytes carried [] [] [] all exchange = (m, subst (λ (x : Keeper). IsExchange x m input carried bytes) all exchange, refl)
served_more k l m input bytes carried (first ∷ inputs) (front ∷ told) (one ∷ earlier) (n, here, all) exchange =
    (n, here, served_more n l m input bytes carried inputs told earlier all exchange)
served_more k l m input bytes carried [] (front ∷ told) [] all exchange = absurd all
served_more k l m input bytes carried [] told (one ∷ earlier) all exchange = absurd all
served_more k l m input bytes carried (first ∷ inputs) told [] all exchange = absurd all
served_more k l m input bytes carried (first ∷ inputs) [] (one ∷ earlier) all exchange = absurd all

-- the count of faults after one input, and after all
grown : (k l : Keeper) (input bytes : List ℕ) (carried : Option Command) → IsExchange k l input carried bytes → k.faults ≤ 2 ^ 64 - 1
    → (k.faults ≤ l.faults) × (l.faults ≤ 2 ^ 64 - 1)
grown k l input bytes carried (inl r) top = let same = r.faults in (omega (arith, same), omega (arith, same, top))
grown k l input bytes carried (inr (inl (none, is, counts))) top = (up k.faults l.faults top counts.1, capped k.faults l.faults counts.1)
  where
    up : (faults last : ℕ) → faults ≤ 2 ^ 64 - 1 → last ≡ one_more faults → faults ≤ last
    up faults last top f = grind arith

    capped : (faults last : ℕ) → last ≡ one_more faults → last ≤ 2 ^ 64 - 1
    capped faults last f = grind arith
grown k l input bytes carried (inr (inr (none, headless, same))) top =
    let faults : l.faults ≡ k.faults = ap (λ (x : Keeper). x.faults) same in (omega (arith, faults), omega (arith, faults, top))

grown_all : (k l : Keeper) (inputs told : List (List ℕ)) (carried : List (Option Command)) → ServesAll k inputs carried told l → k.faults ≤ 2 ^ 64 - 1 → k.faults ≤ l.faults
unfolding ServesAll
grown_all k l [] [] [] all top = let same : l.faults ≡ k.faults = ap (λ (x : Keeper). x.faults) all in omega (arith, same)
grown_all k l (input ∷ inputs) (bytes ∷ told) (one ∷ later) (m, here, all) top =
    let (up, capped) = grown k m input bytes one here top in
    let rest = grown_all m l inputs told later all capped in omega (arith, up, rest)
grown_all k l [] (bytes ∷ told) [] all top = absurd all
grown_all k l [] told (one ∷ later) all top = absurd all
grown_all k l (input ∷ inputs) told [] all top = absurd all
grown_all k l (input ∷ inputs) [] (one ∷ later) all top = absurd all

-- where the count stays, an input with a head is answered
responded : (k l : Keeper) (input bytes : List ℕ) (carried : Option Command) → IsExchange k l input carried bytes → k.faults < 2 ^ 64 - 1
    → l.faults ≤ k.faults → HasHead (Some input) → IsResponded k l input carried bytes
responded k l input bytes carried (inl r) small few head = r
responded k l input bytes carried (inr (inl (none, is, counts))) small few head = absurd (more k.faults l.faults small few counts.1)
  where
    more : (faults last : ℕ) → faults < 2 ^ 64 - 1 → last ≤ faults → last ≡ one_more faults → ⊥
    more faults last small few f = grind arith
responded k l input bytes carried (inr (inr (none, headless, same))) small few head = absurd (headless.0 head)

pub served_are_answers : ServedAreAnswers
unfolding ServesAll RespondsAll AskEach
served_are_answers k l [] [] [] all heads small same = (ap (λ (x : Keeper). x.register) all, tt)
served_are_answers k l (input ∷ inputs) (bytes ∷ told) (one ∷ later) (m, here, all) heads small same =
    let (up, capped) = grown k m input bytes one here (omega (arith, small)) in
    let rest = grown_all m l inputs told later all capped in
    let r = responded k m input bytes one here small (omega (arith, rest, same)) (heads 0 input (omega arith)) in
    let kept = r.faults in
    let (answers, asks) = served_are_answers m l inputs told later all (λ i d lt. heads (suc i) d (omega (arith, lt))) (omega (arith, kept, small)) (same ∙ sym kept) in
    ((r.outcome, r.responds, r.response, subst (λ (X : Register). RespondsAll X inputs told l.register) r.register answers), (r.asks, asks))
served_are_answers k l [] (bytes ∷ told) [] all heads small same = absurd all
served_are_answers k l [] told (one ∷ later) all heads small same = absurd all
served_are_answers k l (input ∷ inputs) told [] all heads small same = absurd all
served_are_answers k l (input ∷ inputs) [] (one ∷ later) all heads small same = absurd all

keeper_of : Register → ℕ → Keeper
keeper_of R n = record { register = R; faults = n }

same_keeper : (k l : Keeper) → l.register ≡ k.register → l.faults ≡ k.faults → l ≡ k
unfolding keeper_of
same_keeper k l e f =
    let same : keeper_of l.register l.faults ≡ keeper_of k.register k.faults =
    ap (λ (R : Register). keeper_of R l.faults) e ∙ ap (keeper_of k.register) f in
    same

pub answers_are_served : AnswersAreServed
unfolding ServesAll RespondsAll AskEach
answers_are_served k l [] [] [] all each same = same_keeper k l all same
answers_are_served k l (input ∷ inputs) (bytes ∷ told) (one ∷ later) (o, responds, e, all) (asks, each) same =
    let m : Keeper = record { register = o.left; faults = k.faults } in
    (m, inl (record { outcome = o; responds = responds; asks = asks; response = e; register = refl; faults = refl }), answers_are_served m l inputs told later all each same)
answers_are_served k l [] (bytes ∷ told) asked all each same = absurd all
answers_are_served k l [] [] (one ∷ later) all each same = absurd each
answers_are_served k l (input ∷ inputs) [] asked all each same = absurd all
answers_are_served k l (input ∷ inputs) (bytes ∷ told) [] all each same = absurd each

-- ---- the requests as bytes, and the responses

-- how far the service is: the commands that were carried out of these inputs
pub record IsFar (first now : Keeper) (inputs told : List (List ℕ)) : Type 0 where
  pub carried : List (Option Command)
  pub served : ServesAll first inputs carried told now

pub none_yet : (first : Keeper) → IsFar first first [] []
unfolding ServesAll
none_yet first = record { carried = []; served = refl }

module _ {X Y : Type 0} (f : X → List ℕ) (g : Y → List ℕ) where
  pub next_far : (first now next : Keeper) (xs : List X) (i : ℕ) (x : X) (input : List ℕ) (ys zs : List Y) (y : Y)
      → i < length xs → x ≡ get_or xs i x → input ≡ f x → zs ≡ ys ++ y ∷ []
      → IsFar first now (take i (map f xs)) (map g ys) → ((carried : Option Command) × IsExchange now next input carried (g y))
      → IsFar first next (take (i + 1) (map f xs)) (map g zs)
  next_far first now next xs i x input ys zs y lt at is e far (carried, exchange) =
      let same : input ≡ f (get_or xs i x) = is ∙ ap f at in
      let inside : i < length (map f xs) = omega (arith, lt, length-map xs f) in
      let inputs : take (i + 1) (map f xs) ≡ take i (map f xs) ++ f (get_or xs i x) ∷ [] =
      take_more (map f xs) i [] inside ∙ ap (λ (bytes : List ℕ). take i (map f xs) ++ bytes ∷ []) (get_or-map f xs i x [] lt) in
      let told : map g zs ≡ map g ys ++ g y ∷ [] = ap (map g) e ∙ map-append g ys (y ∷ []) in
      let one : IsExchange now next (f (get_or xs i x)) carried (g y) =
      subst (λ (bytes : List ℕ). IsExchange now next bytes carried (g y)) same exchange in
      let all = served_more first now next (f (get_or xs i x)) (g y) carried (take i (map f xs)) (map g ys) far.carried far.served one in
      rw (inputs, told) (record { carried = far.carried ++ carried ∷ []; served = all })

  pub all_far : (first now : Keeper) (xs : List X) (i : ℕ) (told : List (List ℕ)) → length xs ≤ i
      → IsFar first now (take i (map f xs)) told → IsFar first now (map f xs) told
  all_far first now xs i told le far =
      let whole : take i (map f xs) ≡ map f xs = take_all i (map f xs) (omega (arith, le, length-map xs f)) in
      subst (λ (inputs : List (List ℕ)). IsFar first now inputs told) whole far
