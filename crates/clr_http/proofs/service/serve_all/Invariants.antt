use Rattle.std.proofs.Common.{◌≤◌, length, map, take}
use Rattle.clr_rules.proofs.Common.{IsGood, IsReached}
use Rattle.clr_http.proofs.Exchanges.{IsFar}
use Rattle.clr_http.specs.RequestLaws.{ComesWithin}
use Rattle.clr_http.proofs.service.serve_all.Given as goal

-- how far the service is
abbrev pub invariant-loop-request : goal.invariant-loop-request
invariant-loop-request g l = record {
  good : IsGood (g.D.Registrar.keeper l.fn.desk).register → IsGood (g.D.Registrar.keeper l.desk).register;
  reached : IsReached (g.D.Registrar.keeper l.fn.desk).register → IsReached (g.D.Registrar.keeper l.desk).register;
  far : IsGood (g.D.Registrar.keeper l.fn.desk).register
      → IsFar (g.D.Registrar.keeper l.fn.desk) (g.D.Registrar.keeper l.desk)
      (take l.request-index (map (λ request. request.items) l.requests)) (map (λ response. response.items) l.responses.items);
  within : l.request-index ≤ length l.requests;
  follows : IsGood (g.D.Registrar.keeper l.fn.desk).register
      → ComesWithin l.request-index (g.D.Registrar.keeper l.fn.desk).register (g.D.Registrar.keeper l.desk).register;
  led : g.D.Registrar.leads_to l.fn.desk l.desk;
}
