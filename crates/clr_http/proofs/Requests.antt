-- One request: its head, and the body after it, in the bytes that were taken.
use Rattle.std.proofs.Common.{◌≡◌, ◌∙◌, sym, ap, refl, subst, ℕ, suc, ◌+◌, ◌≤◌, ◌<◌, ◌-◌, Bool, true, false, if◌then◌else◌, nat_le, List, [], ◌∷◌, ◌++◌, length, take, drop, Option, Some, None, arith, rules, length-append, inl, inr}
use Rattle.std.proofs.lemmas.Bool.{le-leb, lt-leb}
use Rattle.std.proofs.lemmas.List.{take-append-le, drop-append-le, length-drop, length-map, length-take-le}
use Rattle.std.proofs.Math.Seq.{drop-append_seam}
use Rattle.std.specs.Prelude.{Ok}
use Rattle.std.specs.Io.KnownBytes.{Consumes, IsAtEnd}
use Rattle.httparse.proofs.GrammarLemmas.{request_unique, ReadsRequest-append}
use Rattle.httparse.specs.Grammar.{RequestHead, ReadsRequest, print_request}
use Rattle.httparse.specs.Spans.{IsRequestAt, IsRequestWithin, header_bytes, name_and_value}
use Rattle.httparse.specs.declared.spans.HeaderSpan.{HeaderSpan}
use Rattle.httparse.specs.declared.spans.RequestSpans.{RequestSpans}
use Rattle.clr_http.proofs.Heads.{none_at_first}
use Rattle.clr_http.specs.Head.{BeginsWith, HasHead, IsOutside}
use Rattle.clr_http.specs.Callers.{caller_checked, login_of, may_ask}
use Rattle.clr_http.specs.Fields.{fields_of}
use Rattle.clr_http.specs.Request.{IsReading, IsRefusedHead, Reading, asks, command_read, head_read, refusal_of, refused, request_read_at}
use Rattle.clr_http.specs.Reading.{target_asks}
use Rattle.clr_http.specs.Response.{Content, fault_response, status_of}
use Rattle.clr_staff.specs.declared.logins.LoginRow.{LoginRow}
use Rattle.clr_http.specs.declared.head.HeadFault.{HeadFault}
use Rattle.clr_http.specs.declared.options.Service.{Service}
use Rattle.clr_http.specs.declared.head.HeadFault.TheVariants as head_fault
use Rattle.clr_http.specs.declared.response.Fault.TheVariants as fault
use Rattle.clr_http.specs.declared.target.Target.{Target}
use Rattle.clr_http.specs.declared.target.Target.TheVariants.{Command}

-- the body of a command, in the bytes taken
pub body_whole : (input : List ℕ) (left : Option (List ℕ)) (taken : List ℕ) (start size : ℕ)
    → Consumes (Some input) left taken → start + size ≤ length taken
    → command_read (Ok size) (drop start input) ≡ asks Command (take size (drop start taken))
body_whole input None taken start size c le = absurd c
body_whole input (Some ys) taken start size c le =
    let cut : drop start (taken ++ ys) ≡ drop start taken ++ ys = drop-append-le start taken ys (omega (arith, le)) in
    let room : size ≤ length (drop start taken) = rw (length-drop start taken) (omega (arith, le)) in
    let enough : nat_le size (length (drop start taken ++ ys)) ≡ true =
    le-leb size _ (rw (length-append (drop start taken) ys) (omega (arith, room))) in
    rw (c, cut, enough, take-append-le size (drop start taken) ys room) refl

pub body_short : (input : List ℕ) (left : Option (List ℕ)) (taken : List ℕ) (start size : ℕ)
    → Consumes (Some input) left taken → IsAtEnd left → start ≤ length taken → length taken < start + size
    → command_read (Ok size) (drop start input) ≡ refused (fault_response fault.BodyCut)
body_short input None taken start size c e from lt = absurd c
body_short input (Some ys) taken start size c e from lt =
    let rest : length (drop start (taken ++ ys)) ≡ length taken - start =
    length-drop start (taken ++ ys) ∙ ap (λ n. n - start) (length-append taken ys ∙ rw e (search rules)) in
    let few : nat_le size (length (drop start (taken ++ ys))) ≡ false = rw rest (lt-leb size (length taken - start) (omega (arith, from, lt))) in
    rw (c, few) refl

-- the head that was found is the input's only one
pub only_head : (input rest : List ℕ) (left : Option (List ℕ)) (taken : List ℕ) (headers : List HeaderSpan) (spans : RequestSpans) (h head : RequestHead)
    → Consumes (Some input) left taken → IsRequestAt taken headers spans h → ReadsRequest input head rest
    → (h ≡ head) × (drop spans.len input ≡ rest)
only_head input rest None taken headers spans h head c at r = absurd c
only_head input rest (Some ys) taken headers spans h head c at r =
    let here : ReadsRequest (taken ++ ys) head rest = rw c at r in
    let (one, two) = request_unique (taken ++ ys) h head _ rest (ReadsRequest-append taken h _ ys at.reads) here in
    let front : drop spans.len input ≡ rest = rw (at.len, one, r.1) (drop-append_seam (print_request head) rest) in
    (one, front)

-- a head that was found in the first 8,192 bytes lies within the limits
pub has_head : (input : List ℕ) (left : Option (List ℕ)) (taken : List ℕ) (headers : List HeaderSpan) (spans : RequestSpans) (h : RequestHead)
    → Consumes (Some input) left taken → IsRequestAt taken headers spans h → IsRequestWithin taken headers spans
    → length taken ≤ 8192 → length headers ≡ 64 → HasHead (Some input)
has_head input None taken headers spans h c at within small room = absurd c
has_head input (Some ys) taken headers spans h c at within small room =
    let few : length h.fields ≤ 64 =
    let e : length (take spans.headers headers) ≡ length h.fields =
    sym (length-map (take spans.headers headers) (header_bytes taken)) ∙ ap length at.fields ∙ length-map h.fields name_and_value in
    let fits = within.section.count_fits in
    omega (arith, sym (length-take-le spans.headers headers fits) ∙ e, fits, room) in (
      h,
      drop spans.len taken ++ ys,
      record {
        reads = rw c (ReadsRequest-append taken h _ ys at.reads);
        bytes = let le = within.section.len_fits in rw (sym at.len) (omega (arith, le, small));
        fields = few;
      },
    )

-- of no bytes none are taken
pub none_taken : (left : Option (List ℕ)) (taken : List ℕ) → Consumes (Some []) left taken → taken ≡ []
none_taken None taken c = absurd c
none_taken (Some ys) [] c = refl
none_taken (Some ys) (b ∷ taken) c = let e : 0 ≡ suc (length (taken ++ ys)) = ap length c in absurd (omega (arith, e))

-- an input that ends before its first byte is empty
pub nothing_left : (input : List ℕ) (left : Option (List ℕ)) (taken : List ℕ) → Consumes (Some input) left taken → taken ≡ [] → IsAtEnd left → input ≡ []
nothing_left input None taken c t e = absurd c
nothing_left input (Some ys) taken c t e = c ∙ rw (t, e) refl

-- and has no head
pub no_head : (input : List ℕ) → input ≡ [] → HasHead (Some input) → ⊥
no_head input e (h, rest, b) = none_at_first h rest (subst (λ x. ReadsRequest x h rest) e b.reads)

pub at_end : (known : Option (List ℕ)) (input : List ℕ) → known ≡ Some input → IsAtEnd known → input ≡ []
at_end known input e end = subst IsAtEnd e end

-- a fault that says nothing of the bytes is no refusal
pub outside_unsaid : (e : HeadFault) (reading : Reading) → IsOutside e → refusal_of e ≡ Some reading → ⊥
outside_unsaid head_fault.BadHead reading o e = o
outside_unsaid head_fault.HeadTooLarge reading o e = o
outside_unsaid head_fault.HeadCut reading o e = o
outside_unsaid head_fault.ReadFailed reading o e = cc e
outside_unsaid head_fault.NoMemory reading o e = cc e

-- a request that was read is the one of its head
pub reading_is : (service : Service) (input rest : List ℕ) (head : RequestHead) (left : Option (List ℕ)) (reading : Reading) → IsReading service input left reading
    → BeginsWith input head rest → reading ≡ request_read_at service head rest
reading_is service input rest head left reading (inl (h, later, b, e)) begins =
    let (one, two) = request_unique input h head later rest b.reads begins.reads in
    e ∙ (ap (λ x. request_read_at service x later) one ∙ ap (request_read_at service head) two)
reading_is service input rest head left reading (inr (none, refusal)) begins = absurd (none (head, rest, begins))

-- without a head it is a refusal
pub refusal_is : (service : Service) (input : List ℕ) (left : Option (List ℕ)) (reading : Reading) → IsReading service input left reading → ¬ (HasHead (Some input))
    → IsRefusedHead (Some input) left reading
refusal_is service input left reading (inl (h, later, b, e)) none = absurd (none (h, later, b))
refusal_is service input left reading (inr (headless, refusal)) none = refusal

-- what is asked for is no refusal of a head, and neither is the refusal of its caller
unasked : (e : HeadFault) (a : Target) (body : List ℕ) → refusal_of e ≡ Some (asks a body) → ⊥
unasked head_fault.BadHead a body e = cc e
unasked _ a body e = cc e

-- the status of a reading that is refused
status_in : Option Reading → ℕ
status_in None = 400
status_in (Some (refused c)) = status_of c
status_in (Some (asks a body)) = 400

of_head : (e : HeadFault) → status_in (refusal_of e) ≡ 400
unfolding status_in
of_head head_fault.BadHead = refl
of_head head_fault.HeadTooLarge = refl
of_head head_fault.HeadCut = refl
of_head head_fault.ReadFailed = refl
of_head head_fault.NoMemory = refl

no_caller : (e : HeadFault) → refusal_of e ≡ Some (refused (fault_response fault.NotCaller)) → ⊥
unfolding status_in
no_caller e is = let same : 400 ≡ 403 = sym (of_head e) ∙ ap status_in is in absurd (omega (arith, same))

pub asks_unrefused : (logins : Option (List LoginRow)) (login known left : Option (List ℕ)) (a : Target) (body : List ℕ)
    → IsRefusedHead known left (caller_checked logins login (asks a body)) → ⊥
asks_unrefused logins login known left a body (taken, consumed, e, is, explained) = by (may_ask logins login (target_asks a body)) is
  where
    by : (may : Bool) → refusal_of e ≡ Some (if may then asks a body else refused (fault_response fault.NotCaller)) → ⊥
    by true is = unasked e a body is
    by false is = no_caller e is

-- where a request that asks something is refused, its caller is
pub refused_caller : (logins : Option (List LoginRow)) (login : Option (List ℕ)) (a : Target) (body : List ℕ) (c : Content)
    → caller_checked logins login (asks a body) ≡ refused c → may_ask logins login (target_asks a body) ≡ false
refused_caller logins login a body c is = by (may_ask logins login (target_asks a body)) is
  where
    by : (may : Bool) → (if may then asks a body else refused (fault_response fault.NotCaller)) ≡ refused c → may ≡ false
    by true is = cc is
    by false is = refl

-- a request that was read, by its login and by what it came to before its caller was checked
pub heard_is : (service : Service) (login : Option (List ℕ)) (r : Reading) (head : RequestHead) (rest : List ℕ)
    → login ≡ login_of (fields_of head) → r ≡ head_read service head rest → caller_checked service.logins login r ≡ request_read_at service head rest
heard_is service login r head rest e f = rw (e, f) refl

-- the refusal of a head is no request whose caller is checked
pub unchecked_refusal : (logins : Option (List LoginRow)) (login : Option (List ℕ)) (e : HeadFault) (r : Reading)
    → refusal_of e ≡ Some r → refusal_of e ≡ Some (caller_checked logins login r)
unchecked_refusal logins login e (refused c) is = is
unchecked_refusal logins login e (asks a body) is = absurd (unasked e a body is)
