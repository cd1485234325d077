use Rattle.std.proofs.Common.{subst, sym}
use Rattle.clr_rules.specs.Register.{Register, opening}
use Rattle.clr_keeping.specs.Beginning.{IsMadeAt}
use Rattle.clr_keeping.proofs.Begun.{made-level}
use Rattle.clr_edge.proofs.Databases.{IsAsBefore-settled}
use Rattle.clr_keeping.proofs.beginning.register_made_at.Goals as goal

-- the store that was made, whose connection is given back
pub returns-in-Ok-clause-made : goal.returns-in-Ok-clause-made
returns-in-Ok-clause-made g c =
    let R : Register = opening c.args.network.now c.args.staff.now in
    let made : IsMadeAt g.S.Store c.args.connection R c.args.first.now c.in-Ok.store = record {
      mode = c.in-Ok.ensures.mode;
      bare = c.in-Ok.ensures.bare;
      saved = λ clean. (c.in-Ok.ensures.made clean).0;
      tables = λ clean. ((c.in-Ok.ensures.made clean).1, (c.in-Ok.ensures.made clean).2);
      level = made-level g.S.Store R c.args.first.now c.in-Ok.store (λ clean. ((c.in-Ok.ensures.made clean).1, (c.in-Ok.ensures.made clean).2));
      survives = c.in-Ok.ensures.crash_made;
    } in
    subst (λ after. IsMadeAt g.S.Store c.args.connection R c.args.first.now after) (sym c.end.ensures.connection) made

pub returns-in-Err-clause-unmade : goal.returns-in-Err-clause-unmade
returns-in-Err-clause-unmade g c = record {
  as_before =
      IsAsBefore-settled g.S.Store c.args.connection c.in-Err.field-0.connection c.in-Err.ensures.mode c.in-Err.ensures.none
      c.settled.ensures c.settled-in-Err.ensures;
  survives = c.in-Err.ensures.crash_none;
}
