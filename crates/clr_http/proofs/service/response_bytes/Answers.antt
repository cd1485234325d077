use Rattle.std.proofs.Common.{◌≡◌, rules, [], Some}
use Rattle.clr_http.proofs.Exchanges.{exchanged}
use Rattle.clr_http.proofs.RequestRuns.{carried_one}
use Rattle.clr_http.proofs.service.response_bytes.Goals as goal

pub returns-clause-exchange : goal.returns-clause-exchange
returns-clause-exchange g c good =
    let known : Some c.new-reader.result.inner.now ≡ Some c.args.request.now = search rules in
    let begun : Some c.new-writer.result.inner.items ≡ Some [] = search rules in
    let ended : Some c.serve_one.new.writer.inner.items ≡ Some c.into_inner.result.items = search rules in
    exchanged _ _ _ _ _ _ _ _ known begun ended _ c.in_ok-serve_one.ensures.answered good

pub returns-clause-follows : goal.returns-clause-follows
returns-clause-follows g c good = carried_one _ _ _ _ _ _ (c.serve_one.ensures.answered.carries good)

pub returns-in_err-serve_one-clause-follows : goal.returns-in_err-serve_one-clause-follows
returns-in_err-serve_one-clause-follows g c good = carried_one _ _ _ _ _ _ (c.serve_one.ensures.answered.carries good)
