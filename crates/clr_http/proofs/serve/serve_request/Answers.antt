use Rattle.std.proofs.Common.{◌≡◌, ◌∙◌, Some, None, true, false, inl, inr, refl, rules, subst, sym}
use Rattle.std.specs.Prelude.{Err, IfSome}
use Rattle.clr_http.proofs.Answers.{empty_answered, refused_answered, turned_answered, unmade_answered, unread_answered}
use Rattle.clr_http.proofs.Puttings.{asked_puts, end_asks_none, unpermitted_same}
use Rattle.clr_http.proofs.RequestRuns.{reading_may_ask}
use Rattle.clr_http.proofs.Requests.{asks_unrefused, reading_is, refusal_is, refused_caller}
use Rattle.clr_http.specs.Callers.{caller_checked, login_of}
use Rattle.clr_http.specs.Fields.{fields_of}
use Rattle.clr_http.specs.Puts.{IsUnmade, login_noted}
use Rattle.clr_http.specs.Reading.{target_asks}
use Rattle.clr_http.specs.Request.{IsNo503, IsReadAs, IsReading, asks, reading, refused}
use Rattle.clr_http.specs.Response.{content_of}
use Rattle.clr_http.specs.Served.{http_fault_of}
use Rattle.clr_http.specs.declared.request.Heard.{Heard}
use Rattle.clr_http.specs.declared.serve.HttpFault.TheVariants.{NoMemory}
use Rattle.clr_http.proofs.serve.serve_request.Goals as goal

pub returns-in_err-heard-clause-answered : goal.returns-in_err-heard-clause-answered
returns-in_err-heard-clause-answered g c =
    let unread : c.from_residual.result ≡ Err (http_fault_of c.in_err-heard.field-0.0) = search rules in
    unread_answered _ _ _ _ _ _ _ c.read_request.ensures.bounded unread (λ e. c.read_request.ensures.cause (search (e, rules)))

pub returns-in_default-clause-answered : goal.returns-in_default-clause-answered
returns-in_default-clause-answered g c =
    let none = c.in_default.is in
    empty_answered _ _ _ _ _ c.read_request.ensures.bounded (c.in_ok-heard.ensures.nothing (search (none, rules)))

pub returns-in-Refused-clause-answered : goal.returns-in-Refused-clause-answered
returns-in-Refused-clause-answered g c =
    let service = c.args.service.now in
    let left = g.R.Read.remaining c.read_request.new.reader in
    let some = c.in-Some.is in
    let plain : IsNo503 (refused (content_of c.in-Refused.response)) =
    subst (λ x. IsNo503 (reading x)) c.in-Refused.is (subst (λ o. IfSome o (λ h. IsNo503 (reading h.request))) some c.in_ok-heard.ensures.plain) in
    refused_answered _ _ _ _ _ _ _ c.send.ensures.written c.send.ensures.some c.send.ensures.calm c.send.ensures.fixed
    (λ e. let none : Some c.in-Some.heard ≡ None = sym some ∙ c.in_ok-heard.ensures.empty e in cc none) c.read_request.ensures.bounded _
    (λ input e.
    subst (λ x. IsReading service input left (caller_checked service.logins c.in-Some.heard.login (reading x))) c.in-Refused.is
    (subst (IsReadAs service input left) some (c.in_ok-heard.ensures.known input e))) plain

pub returns-in_err-response-in-Asks-clause-answered : goal.returns-in_err-response-in-Asks-clause-answered
returns-in_err-response-in-Asks-clause-answered g c =
    let service = c.args.service.now in
    let left = g.R.Read.remaining c.read_request.new.reader in
    let login = c.in-Some.heard.login in
    let unmade : c.from_residual-in_err-response-in-Asks.result ≡ Err NoMemory = search rules in
    unmade_answered _ _ _ _ _ _ _ _ login c.in-Asks.asked c.as_slice.result.now c.read_request.ensures.bounded unmade
    (λ input e.
    subst (λ x. IsReading service input left (caller_checked service.logins login (asks c.in-Asks.asked x))) (sym c.as_slice.ensures.value)
    (subst (λ x. IsReading service input left (caller_checked service.logins login (reading x))) c.in-Asks.is
    (subst (IsReadAs service input left) c.in-Some.is (c.in_ok-heard.ensures.known input e))))
    c.in_err-response-in-Asks.ensures.turn c.in_err-response-in-Asks.ensures.accounts

pub returns-in_ok-response-in-Asks-clause-answered : goal.returns-in_ok-response-in-Asks-clause-answered
returns-in_ok-response-in-Asks-clause-answered g c =
    let service = c.args.service.now in
    let left = g.R.Read.remaining c.read_request.new.reader in
    let login = c.in-Some.heard.login in
    let sent = c.send-in-Asks.ensures in
    turned_answered _ _ _ _ _ _ _ sent.written sent.some sent.calm sent.fixed
    (λ e. let none : Some c.in-Some.heard ≡ None = sym c.in-Some.is ∙ c.in_ok-heard.ensures.empty e in cc none) c.read_request.ensures.bounded
    _ _ _ login c.in-Asks.asked c.as_slice.result.now
    (λ input e.
    subst (λ x. IsReading service input left (caller_checked service.logins login (asks c.in-Asks.asked x))) (sym c.as_slice.ensures.value)
    (subst (λ x. IsReading service input left (caller_checked service.logins login (reading x))) c.in-Asks.is
    (subst (IsReadAs service input left) c.in-Some.is (c.in_ok-heard.ensures.known input e))))
    c.in_ok-response-in-Asks.ensures.turn c.in_ok-response-in-Asks.ensures.accounts

pub returns-in_ok-response-in-Asks-clause-refused : goal.returns-in_ok-response-in-Asks-clause-refused
returns-in_ok-response-in-Asks-clause-refused g c input e none =
    let service = c.args.service.now in
    let left = g.R.Read.remaining c.read_request.new.reader in
    let login = c.in-Some.heard.login in
    let reads = subst (λ x. IsReading service input left (caller_checked service.logins login (reading x))) c.in-Asks.is
    (subst (IsReadAs service input left) c.in-Some.is (c.in_ok-heard.ensures.known input e)) in
    absurd (asks_unrefused service.logins login (Some input) left c.in-Asks.asked c.in-Asks.body.items (refusal_is service input left _ reads none))

pub returns-in_err-response-in-Asks-clause-refused : goal.returns-in_err-response-in-Asks-clause-refused
returns-in_err-response-in-Asks-clause-refused g c input e none =
    let service = c.args.service.now in
    let left = g.R.Read.remaining c.read_request.new.reader in
    let login = c.in-Some.heard.login in
    let reads = subst (λ x. IsReading service input left (caller_checked service.logins login (reading x))) c.in-Asks.is
    (subst (IsReadAs service input left) c.in-Some.is (c.in_ok-heard.ensures.known input e)) in
    absurd (asks_unrefused service.logins login (Some input) left c.in-Asks.asked c.in-Asks.body.items (refusal_is service input left _ reads none))

pub returns-in_ok-response-in-Asks-clause-unasked : goal.returns-in_ok-response-in-Asks-clause-unasked
returns-in_ok-response-in-Asks-clause-unasked g c input rest head content e begins is =
    let service = c.args.service.now in
    let left = g.R.Read.remaining c.read_request.new.reader in
    let login = c.in-Some.heard.login in
    let reads = subst (λ x. IsReading service input left (caller_checked service.logins login (asks c.in-Asks.asked x))) (sym c.as_slice.ensures.value)
    (subst (λ x. IsReading service input left (caller_checked service.logins login (reading x))) c.in-Asks.is
    (subst (IsReadAs service input left) c.in-Some.is (c.in_ok-heard.ensures.known input e))) in
    unpermitted_same g.D.Registrar.takes service.logins login (login_noted service.desk login) (target_asks c.in-Asks.asked c.as_slice.result.now)
    (false ≡ true) _ _
    (refused_caller service.logins login c.in-Asks.asked c.as_slice.result.now content (reading_is service input rest head left _ reads begins ∙ is))
    c.in_ok-response-in-Asks.ensures.put

pub returns-in_err-response-in-Asks-clause-unasked : goal.returns-in_err-response-in-Asks-clause-unasked
returns-in_err-response-in-Asks-clause-unasked g c input rest head content e begins is =
    let service = c.args.service.now in
    let left = g.R.Read.remaining c.read_request.new.reader in
    let login = c.in-Some.heard.login in
    let reads = subst (λ x. IsReading service input left (caller_checked service.logins login (asks c.in-Asks.asked x))) (sym c.as_slice.ensures.value)
    (subst (λ x. IsReading service input left (caller_checked service.logins login (reading x))) c.in-Asks.is
    (subst (IsReadAs service input left) c.in-Some.is (c.in_ok-heard.ensures.known input e))) in
    unpermitted_same g.D.Registrar.takes service.logins login (login_noted service.desk login) (target_asks c.in-Asks.asked c.as_slice.result.now)
    (true ≡ true) _ _
    (refused_caller service.logins login c.in-Asks.asked c.as_slice.result.now content (reading_is service input rest head left _ reads begins ∙ is))
    c.in_err-response-in-Asks.ensures.put

pub returns-in_default-clause-put : goal.returns-in_default-clause-put
returns-in_default-clause-put g c =
    let none = c.in_default.is in
    inr (inl (end_asks_none c.args.service.now _ (c.in_ok-heard.ensures.nothing (search (none, rules)))), refl)

pub returns-in-Refused-clause-put : goal.returns-in-Refused-clause-put
returns-in-Refused-clause-put g c =
    let service = c.args.service.now in
    let left = g.R.Read.remaining c.read_request.new.reader in
    let known = g.R.Read.remaining c.args.reader.now in
    inr (
      inl (reading_may_ask service known left (refused (content_of c.in-Refused.response))
          (λ input e.
          subst (λ x. IsReading service input left (caller_checked service.logins c.in-Some.heard.login (reading x))) c.in-Refused.is
          (subst (IsReadAs service input left) c.in-Some.is (c.in_ok-heard.ensures.known input e)))),
      refl,
    )

pub returns-in_ok-response-in-Asks-clause-put : goal.returns-in_ok-response-in-Asks-clause-put
returns-in_ok-response-in-Asks-clause-put g c =
    let service = c.args.service.now in
    let left = g.R.Read.remaining c.read_request.new.reader in
    let known = g.R.Read.remaining c.args.reader.now in
    let login = c.in-Some.heard.login in
    asked_puts g.D.Registrar.takes service known left c.send-in-Asks.result login c.in-Asks.asked c.as_slice.result.now
    (false ≡ true) _ _
    (λ input e.
    subst (λ x. IsReading service input left (caller_checked service.logins login (asks c.in-Asks.asked x))) (sym c.as_slice.ensures.value)
    (subst (λ x. IsReading service input left (caller_checked service.logins login (reading x))) c.in-Asks.is
    (subst (IsReadAs service input left) c.in-Some.is (c.in_ok-heard.ensures.known input e))))
    (λ input rest head e begins.
    subst (λ o. IfSome o (λ (h : Heard). h.login ≡ login_of (fields_of head))) c.in-Some.is (c.in_ok-heard.ensures.login input rest head e begins))
    (λ x. cc x) c.in_ok-response-in-Asks.ensures.put

pub returns-in_err-response-in-Asks-clause-put : goal.returns-in_err-response-in-Asks-clause-put
returns-in_err-response-in-Asks-clause-put g c =
    let service = c.args.service.now in
    let left = g.R.Read.remaining c.read_request.new.reader in
    let known = g.R.Read.remaining c.args.reader.now in
    let login = c.in-Some.heard.login in
    let unmade : c.from_residual-in_err-response-in-Asks.result ≡ Err NoMemory = search rules in
    asked_puts g.D.Registrar.takes service known left c.from_residual-in_err-response-in-Asks.result login c.in-Asks.asked c.as_slice.result.now
    (true ≡ true) _ _
    (λ input e.
    subst (λ x. IsReading service input left (caller_checked service.logins login (asks c.in-Asks.asked x))) (sym c.as_slice.ensures.value)
    (subst (λ x. IsReading service input left (caller_checked service.logins login (reading x))) c.in-Asks.is
    (subst (IsReadAs service input left) c.in-Some.is (c.in_ok-heard.ensures.known input e))))
    (λ input rest head e begins.
    subst (λ o. IfSome o (λ (h : Heard). h.login ≡ login_of (fields_of head))) c.in-Some.is (c.in_ok-heard.ensures.login input rest head e begins))
    (λ x. subst IsUnmade (sym unmade) tt) c.in_err-response-in-Asks.ensures.put
