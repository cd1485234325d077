use Rattle.std.proofs.Common.{Ok, Err, subst, sym}
use Rattle.clr_keeping.specs.Beginning.{IsPlacedOrNot}
use Rattle.clr_edge.specs.Visit.{reported}
use Rattle.clr_keeping.proofs.Begun.{placed-level}
use Rattle.clr_keeping.proofs.beginning.place_in.Goals as goal

-- the place was set
pub returns-in-Ok-clause-placed : goal.returns-in-Ok-clause-placed
returns-in-Ok-clause-placed g c =
    let placed : IsPlacedOrNot g.S.Store c.args.store c.args.first.now (Ok tt) c.begin_at.new.self = record {
      made = c.in-Ok.ensures.transacts.made;
      saved = c.in-Ok.ensures.transacts.saved;
      level = placed-level g.S.Store c.args.store c.args.first.now c.begin_at.new.self c.in-Ok.ensures.transacts.was_open c.in-Ok.ensures.transacts.made;
      none = λ clean is_open. tt;
      was_open = c.in-Ok.ensures.transacts.was_open;
      survives = c.in-Ok.ensures.transacts.crash;
    } in
    subst (λ after. IsPlacedOrNot g.S.Store c.args.store c.args.first.now (Ok tt) after) (sym c.end.ensures.connection) placed

-- or not
pub returns-in-Err-clause-placed : goal.returns-in-Err-clause-placed
returns-in-Err-clause-placed g c =
    let placed : IsPlacedOrNot g.S.Store c.args.store c.args.first.now (reported (Err c.of_store.result)) c.begin_at.new.self = record {
      made = λ clean. tt;
      saved = λ clean. tt;
      level = tt;
      none = c.in-Err.ensures.transacts.none;
      was_open = c.in-Err.ensures.transacts.was_open;
      survives = c.in-Err.ensures.transacts.crash;
    } in
    subst (λ after. IsPlacedOrNot g.S.Store c.args.store c.args.first.now (reported (Err c.of_store.result)) after) (sym c.end-in-Err.ensures.connection) placed
