use Rattle.std.proofs.Common.{◌∙◌, ap, inr, refl, rules, sym}
use Rattle.clr_commands.proofs.ConnectionRuns.{all_have_run, ended_early, ended_in_doubt, ends_untaken}
use Rattle.clr_commands.proofs.Connections.{first_taken, next_taken}
use Rattle.clr_commands.proofs.serve.serve_connections.Goals as goal

pub loop-done-init : goal.loop-done-init
loop-done-init g c = record {
  taken = first_taken _ _ _ _ _ _ _ _;
  led = g.met.D.Registrar.stays c.args.desk.now;
}

pub loop-done-preserved : goal.loop-done-preserved
loop-done-preserved g c = record {
  taken = next_taken _ _ _ _ _ c.loop-done.done _ _ _ _ _ _ _ _ _ c.loop-done.invariant.taken c.in_ok-serve_next.ensures.taken (search rules);
  led = g.met.D.Registrar.goes_on _ _ _ c.loop-done.invariant.led c.serve_next.ensures.led;
}

pub returns-clause-run : goal.returns-clause-run
returns-clause-run g c good =
    all_have_run _ _ _ _ _ c.headline_holds_of_runs.ensures.replies c.headline_holds_of_runs.ensures.nothing c.headline_holds_of_runs.ensures.alone
    _ _ c.loop-done.auto.done-end c.loop-done-test.false _ _ _ _ _ _ c.loop-done.invariant.taken good

-- a desk's next connection could not be taken
pub returns-in_err-serve_next-clause-ended : goal.returns-in_err-serve_next-clause-ended
returns-in_err-serve_next-clause-ended g c =
    let (kind, missed, desk, same, quiet) = c.in_err-serve_next.ensures.missed in
    ends_untaken _ _ _ _ _ _ _ _ _ _ _ c.in_err-serve_next.field-0.0 c.from_residual.result c.in_err-serve_next.ensures.fault c.from_residual.ensures.1
    (ended_early _ _ _ _ _ c.headline_holds_of_runs.ensures.replies c.headline_holds_of_runs.ensures.nothing c.headline_holds_of_runs.ensures.alone
    c.loop-done.done c.loop-done-test.true _ _ _ _ _ _ _ _ _ c.loop-done.invariant.taken kind missed desk same (ap g.E.CountedWrite.stream quiet))

pub returns-in_err-serve_next-clause-led : goal.returns-in_err-serve_next-clause-led
returns-in_err-serve_next-clause-led g c = g.met.D.Registrar.goes_on _ _ _ c.loop-done.invariant.led c.serve_next.ensures.led

-- it is not known whether a change of the last connection was kept
pub returns-then-is_in_doubt-clause-ended : goal.returns-then-is_in_doubt-clause-ended
returns-then-is_in_doubt-clause-ended g c = inr (
  refl,
  ended_in_doubt _ _ _ _ _ c.headline_holds_of_runs.ensures.replies c.headline_holds_of_runs.ensures.nothing c.headline_holds_of_runs.ensures.alone
      c.loop-done.done c.loop-done-test.true _ _ _ _ _ _ _ _ _ c.loop-done.invariant.taken c.in_ok-serve_next.ensures.taken (sym c.is_in_doubt.ensures ∙ c.if-is_in_doubt.true),
)
