use Rattle.std.proofs.Common.{Global, Vec, ℕ, arith}
use Rattle.clr_http.proofs.Exchanges.{all_far, next_far, none_yet, served_are_answers}
use Rattle.clr_http.proofs.RequestRuns.{comes_further, comes_itself, comes_within, has_run}
use Rattle.clr_http.proofs.service.serve_all.Goals as goal

pub loop-request-init : goal.loop-request-init
loop-request-init g c = record {
  good = λ h. h;
  reached = λ h. h;
  far = λ good. rw c.new-responses.ensures.items (none_yet (g.D.Registrar.keeper c.args.desk.now));
  within = omega arith;
  follows = λ good. comes_itself _;
  led = g.met.D.Registrar.stays c.args.desk.now;
}

pub loop-request-preserved : goal.loop-request-preserved
loop-request-preserved g c = record {
  good = λ h. c.response_bytes.ensures.good (c.loop-request.invariant.good h);
  reached = λ h. c.response_bytes.ensures.reached (c.loop-request.invariant.reached h);
  far = λ good.
      next_far (λ request. request.items) (λ response. response.items) _ _ _ _ _ c.request-item.result _ _ _ _ c.loop-request-test.true
      c.request-item.is c.as_slice.ensures.value c.in_ok-push.ensures.items (c.loop-request.invariant.far good)
      (c.in_ok-response.ensures.exchange (c.loop-request.invariant.good good));
  within = omega (arith, c.loop-request-test.true);
  follows = λ good.
      comes_further _ _ _ _ _ (c.loop-request.invariant.follows good) (c.response_bytes.ensures.follows (c.loop-request.invariant.good good)) (omega arith);
  led = g.met.D.Registrar.goes_on _ _ _ c.loop-request.invariant.led c.response_bytes.ensures.led;
}

pub returns-in_err-response-clause-follows : goal.returns-in_err-response-clause-follows
returns-in_err-response-clause-follows g c good =
    comes_further _ _ _ _ _ (c.loop-request.invariant.follows good) (c.response_bytes.ensures.follows (c.loop-request.invariant.good good))
    (omega (arith, c.loop-request-test.true))

pub returns-in_err-push-clause-reached : goal.returns-in_err-push-clause-reached
returns-in_err-push-clause-reached g c h = c.response_bytes.ensures.reached (c.loop-request.invariant.reached h)

pub returns-in_err-push-clause-led : goal.returns-in_err-push-clause-led
returns-in_err-push-clause-led g c = g.met.D.Registrar.goes_on _ _ _ c.loop-request.invariant.led c.response_bytes.ensures.led

pub returns-in_err-push-clause-follows : goal.returns-in_err-push-clause-follows
returns-in_err-push-clause-follows g c good =
    comes_further _ _ _ _ _ (c.loop-request.invariant.follows good) (c.response_bytes.ensures.follows (c.loop-request.invariant.good good))
    (omega (arith, c.loop-request-test.true))

pub returns-clause-follows : goal.returns-clause-follows
returns-clause-follows g c good = comes_within _ _ _ _ (c.loop-request.invariant.follows good) c.loop-request.invariant.within

pub returns-clause-whole : goal.returns-clause-whole
returns-clause-whole g c good heads small same =
    let far = all_far {X = Vec ℕ Global} {Y = Vec ℕ Global} (λ request. request.items) (λ response. response.items) _ _ _ _ _ c.loop-request-test.false (c.loop-request.invariant.far good) in
    (served_are_answers _ _ _ _ far.carried far.served heads small same).0

pub returns-clause-run : goal.returns-clause-run
returns-clause-run g c good =
    let far = all_far {X = Vec ℕ Global} {Y = Vec ℕ Global} (λ request. request.items) (λ response. response.items) _ _ _ _ _ c.loop-request-test.false (c.loop-request.invariant.far good) in
    has_run c.headline_holds_of_runs.ensures.replies c.headline_holds_of_runs.ensures.nothing c.headline_holds_of_runs.ensures.alone _ _ _ _ far.carried far.served
