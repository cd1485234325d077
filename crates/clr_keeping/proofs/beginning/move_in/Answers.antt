use Rattle.std.proofs.Common.{Ok, Err, List, Some, subst, sym}
use Rattle.sqlite.specs.Held.{state}
use Rattle.clr_rules.specs.declared.change.Edit.{Edit}
use Rattle.clr_load.specs.TableEdits.{tables_edited}
use Rattle.clr_store.specs.Transaction.{FailsAs, PlacesAs, Transacts}
use Rattle.clr_keeping.specs.Beginning.{IsPlacedOrNot}
use Rattle.clr_edge.specs.Visit.{reported}
use Rattle.clr_keeping.proofs.Begun.{placed-level}
use Rattle.clr_keeping.proofs.beginning.move_in.Goals as goal

-- the place was set, with no edit
pub returns-in-Ok-clause-placed : goal.returns-in-Ok-clause-placed
returns-in-Ok-clause-placed g c =
    let before = state g.S.Store c.args.store in
    let after = state g.S.Store c.commit.new.self in
    let place = Some c.args.first.now in
    let it = subst (λ (edits : List Edit). Transacts {X = Unit {0}} (PlacesAs place) (FailsAs place) before after (tables_edited edits) (Ok tt)) c.new.ensures.items c.in-Ok.ensures in
    let placed : IsPlacedOrNot g.S.Store c.args.store c.args.first.now (Ok tt) c.commit.new.self = record {
      made = it.made;
      saved = it.saved;
      level = placed-level g.S.Store c.args.store c.args.first.now c.commit.new.self it.was_open it.made;
      none = λ clean is_open. tt;
      was_open = it.was_open;
      survives = it.crash;
    } in
    subst (λ after. IsPlacedOrNot g.S.Store c.args.store c.args.first.now (Ok tt) after) (sym c.end.ensures.connection) placed

-- or not
pub returns-clause-placed : goal.returns-clause-placed
returns-clause-placed g c =
    let before = state g.S.Store c.args.store in
    let after = state g.S.Store c.commit.new.self in
    let place = Some c.args.first.now in
    let it = subst (λ (edits : List Edit). Transacts {X = Unit {0}} (PlacesAs place) (FailsAs place) before after (tables_edited edits) (Err c.in-Err.cause)) c.new.ensures.items c.in-Err.ensures in
    let placed : IsPlacedOrNot g.S.Store c.args.store c.args.first.now (reported (Err c.of_store.result)) c.commit.new.self = record {
      made = λ clean. tt;
      saved = λ clean. tt;
      level = tt;
      none = it.none;
      was_open = it.was_open;
      survives = it.crash;
    } in
    subst (λ after. IsPlacedOrNot g.S.Store c.args.store c.args.first.now (reported (Err c.of_store.result)) after) (sym c.end-in-Err.ensures.connection) placed
