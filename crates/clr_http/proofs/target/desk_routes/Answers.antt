use Rattle.std.proofs.Common.{refl}
use Rattle.matchit.proofs.OnLiterals.{matchit_on_literals}
use Rattle.clr_http.specs.Target.{desk_routes}
use Rattle.clr_http.proofs.target.desk_routes.Goals as goal

pub returns : goal.returns
unfolding matchit_on_literals desk_routes
returns c =
    let a = c.in_ok-insert.ensures in
    let b = c.in_ok-insert-2.ensures in
    rw (b.1, a.1, c.in_ok-router.ensures) refl
