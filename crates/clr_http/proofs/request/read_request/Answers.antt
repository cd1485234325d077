use Rattle.std.proofs.Common.{◌≡◌, ◌≤◌, ◌∙◌, sym, ap, subst, arith, rules, inl, inr, [], ℕ, List, length, map, take, vec_len, None, Some, IfSome}
use Rattle.std.specs.Io.KnownBytes.{Consumes}
use Rattle.httparse.specs.Spans.{IsRequestAt, IsRequestOf, IsRequestWithin, header_bytes}
use Rattle.clr_http.specs.Head.{HasHead}
use Rattle.clr_http.specs.Callers.{login_of}
use Rattle.clr_http.specs.Fields.{fields_of}
use Rattle.clr_http.specs.Request.{head_read, reading}
use Rattle.clr_http.proofs.Heads.{none_at_first}
use Rattle.clr_http.proofs.Requests.{has_head, heard_is, none_taken, nothing_left, only_head, outside_unsaid, unchecked_refusal}
use Rattle.clr_http.proofs.request.read_request.Goals as goal

pub returns-in-Ok-None-clause-known : goal.returns-in-Ok-None-clause-known
returns-in-Ok-None-clause-known g c input e =
    let left = g.R.Read.remaining c.read_head.new.reader in
    let bytes = c.read_head.new.buffer.items in
    let taken : Consumes (Some input) left bytes = subst (λ k. Consumes k left bytes) e c.read_head.ensures.taken in
    let none = c.in-Ok-None.ensures.nothing (search rules) in
    nothing_left input left bytes taken none.0 none.1

pub returns-in-Ok-Some-clause-known : goal.returns-in-Ok-Some-clause-known
returns-in-Ok-Some-clause-known g c input e =
    let left = g.R.Read.remaining c.read_head.new.reader in
    let bytes = c.read_head.new.buffer.items in
    let taken : Consumes (Some input) left bytes = subst (λ k. Consumes k left bytes) e c.read_head.ensures.taken in
    let (h, at) = subst (λ o. IfSome o (IsRequestOf bytes c.read_head.new.headers)) c.in-Ok-Some.field-0-is c.in-Ok-Some.ensures.head in
    let within = subst (λ o. IfSome o (IsRequestWithin bytes c.read_head.new.headers)) c.in-Ok-Some.field-0-is c.in-Ok-Some.ensures.within in
    let len : vec_len c.read_head.new.buffer ≡ length bytes = c.read_head.new.buffer.ok.0 in
    let small : length bytes ≤ 8192 = omega (arith, len, c.read_head.ensures.size) in
    let (head, rest, b) = has_head input left bytes _ _ h taken at within small c.read_head.ensures.room in
    let (one, front) = only_head input rest left bytes _ _ h head taken at b.reads in
    let found = c.in_ok-request-in-Ok-Some.ensures.reading head input (subst (IsRequestAt bytes _ _) one at) taken in
    let fields = IsRequestAt.fields (subst (IsRequestAt bytes c.read_head.new.headers c.in-Ok-Some.spans) one at) in
    let login : c.login_of-login.result ≡ login_of (fields_of head) =
    c.login_of-login.ensures
    ∙ ap (λ (b : List ℕ). login_of (map (header_bytes b) (take c.in-Ok-Some.spans.headers c.read_head.new.headers))) c.as_slice.ensures.value
    ∙ ap login_of fields in
    inl (head, rest, b, heard_is c.args.service.now _ _ head rest login (subst (λ x. reading c.in_ok-request-in-Ok-Some.request ≡ head_read c.args.service.now head x) front found))

pub returns-in-Ok-Some-clause-login : goal.returns-in-Ok-Some-clause-login
returns-in-Ok-Some-clause-login g c input rest head e begins =
    let left = g.R.Read.remaining c.read_head.new.reader in
    let bytes = c.read_head.new.buffer.items in
    let taken : Consumes (Some input) left bytes = subst (λ k. Consumes k left bytes) e c.read_head.ensures.taken in
    let (h, at) = subst (λ o. IfSome o (IsRequestOf bytes c.read_head.new.headers)) c.in-Ok-Some.field-0-is c.in-Ok-Some.ensures.head in
    let (one, front) = only_head input rest left bytes _ _ h head taken at begins.reads in
    let fields = IsRequestAt.fields (subst (IsRequestAt bytes c.read_head.new.headers c.in-Ok-Some.spans) one at) in
    c.login_of-login.ensures
    ∙ ap (λ (b : List ℕ). login_of (map (header_bytes b) (take c.in-Ok-Some.spans.headers c.read_head.new.headers))) c.as_slice.ensures.value
    ∙ ap login_of fields

pub returns-clause-known : goal.returns-clause-known
returns-clause-known g c input e =
    let left = g.R.Read.remaining c.read_head.new.reader in
    let bytes = c.read_head.new.buffer.items in
    let taken : Consumes (Some input) left bytes = subst (λ k. Consumes k left bytes) e c.read_head.ensures.taken in
    let refusal = unchecked_refusal c.args.service.now.logins None _ _ c.in_ok-request-in-Err.ensures.reading in
    inr (
      λ head. outside_unsaid _ _ (c.in-Err.ensures.found (subst HasHead (sym e) head)) refusal,
      (bytes, taken, c.in-Err.fault, refusal, c.in-Err.ensures.fault),
    )

-- at most a head was taken
pub returns-in-Ok-None-clause-bounded : goal.returns-in-Ok-None-clause-bounded
returns-in-Ok-None-clause-bounded g c =
    let len : vec_len c.read_head.new.buffer ≡ length c.read_head.new.buffer.items = c.read_head.new.buffer.ok.0 in
    (c.read_head.new.buffer.items, c.read_head.ensures.taken, omega (arith, len, c.read_head.ensures.size))

pub returns-in_err-request-in-Err-clause-bounded : goal.returns-in_err-request-in-Err-clause-bounded
returns-in_err-request-in-Err-clause-bounded g c =
    let len : vec_len c.read_head.new.buffer ≡ length c.read_head.new.buffer.items = c.read_head.new.buffer.ok.0 in
    (c.read_head.new.buffer.items, c.read_head.ensures.taken, omega (arith, len, c.read_head.ensures.size))

pub returns-clause-bounded : goal.returns-clause-bounded
returns-clause-bounded g c =
    let len : vec_len c.read_head.new.buffer ≡ length c.read_head.new.buffer.items = c.read_head.new.buffer.ok.0 in
    (c.read_head.new.buffer.items, c.read_head.ensures.taken, omega (arith, len, c.read_head.ensures.size))

-- or a head and a body
pub returns-in_err-request-in-Ok-Some-clause-bounded : goal.returns-in_err-request-in-Ok-Some-clause-bounded
returns-in_err-request-in-Ok-Some-clause-bounded g c =
    let after = c.request_in.new.buffer in
    let len : vec_len after ≡ length after.items = after.ok.0 in
    (after.items, c.request_in.ensures.taken (g.R.Read.remaining c.args.reader.now) c.read_head.ensures.taken, omega (arith, len, c.request_in.ensures.within))

pub returns-in-Ok-Some-clause-bounded : goal.returns-in-Ok-Some-clause-bounded
returns-in-Ok-Some-clause-bounded g c =
    let after = c.request_in.new.buffer in
    let len : vec_len after ≡ length after.items = after.ok.0 in
    (after.items, c.request_in.ensures.taken (g.R.Read.remaining c.args.reader.now) c.read_head.ensures.taken, omega (arith, len, c.request_in.ensures.within))

pub returns-in-Ok-Some-clause-empty : goal.returns-in-Ok-Some-clause-empty
returns-in-Ok-Some-clause-empty g c e =
    let left = g.R.Read.remaining c.read_head.new.reader in
    let bytes = c.read_head.new.buffer.items in
    let taken : Consumes (Some []) left bytes = subst (λ k. Consumes k left bytes) e c.read_head.ensures.taken in
    let (h, at) = subst (λ o. IfSome o (IsRequestOf bytes c.read_head.new.headers)) c.in-Ok-Some.field-0-is c.in-Ok-Some.ensures.head in
    let within = subst (λ o. IfSome o (IsRequestWithin bytes c.read_head.new.headers)) c.in-Ok-Some.field-0-is c.in-Ok-Some.ensures.within in
    let len : vec_len c.read_head.new.buffer ≡ length bytes = c.read_head.new.buffer.ok.0 in
    let small : length bytes ≤ 8192 = omega (arith, len, c.read_head.ensures.size) in
    let (k, rest, b) = has_head [] left bytes _ _ h taken at within small c.read_head.ensures.room in
    absurd (none_at_first k rest b.reads)

pub returns-clause-empty : goal.returns-clause-empty
returns-clause-empty g c e =
    let left = g.R.Read.remaining c.read_head.new.reader in
    let bytes = c.read_head.new.buffer.items in
    let taken : Consumes (Some []) left bytes = subst (λ k. Consumes k left bytes) e c.read_head.ensures.taken in
    let len : vec_len c.read_head.new.buffer ≡ length bytes = c.read_head.new.buffer.ok.0 in
    let fault = c.in-Err.ensures.begun (len ∙ ap length (none_taken left bytes taken)) in
    absurd (outside_unsaid _ _ fault c.in_ok-request-in-Err.ensures.reading)
