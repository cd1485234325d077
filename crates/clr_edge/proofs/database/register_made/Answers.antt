use Rattle.std.proofs.Common.{◌∙◌, subst, sym}
use Rattle.clr_rules.specs.Register.{Register, opening}
use Rattle.clr_edge.specs.Database.{IsMade}
use Rattle.clr_edge.proofs.Databases.{IsAsBefore-settled}
use Rattle.clr_edge.proofs.database.register_made.Goals as goal

-- the desk that was made, whose connection is given back
pub returns-in-Ok-clause-made : goal.returns-in-Ok-clause-made
returns-in-Ok-clause-made g c =
    let R : Register = opening c.args.network c.args.staff in
    let made : IsMade g.S.Store c.args.connection R c.in-Ok.desk.store = record {
      mode = c.in-Ok.ensures.mode;
      bare = c.in-Ok.ensures.bare;
      saved = λ clean. (c.in-Ok.ensures.made clean).0;
      tables = λ clean. (c.in-Ok.ensures.made clean).1;
      survives = c.in-Ok.ensures.crash_made;
    } in
    subst (λ after. IsMade g.S.Store c.args.connection R after) (sym (c.end-in-Ok.ensures.connection ∙ c.end.ensures)) made

pub returns-in-Err-clause-unmade : goal.returns-in-Err-clause-unmade
returns-in-Err-clause-unmade g c = record {
  as_before =
      IsAsBefore-settled g.S.Store c.args.connection c.in-Err.connection c.in-Err.ensures.mode c.in-Err.ensures.none
      c.settled.ensures c.settled-in-Err.ensures;
  survives = c.in-Err.ensures.crash_none;
}
