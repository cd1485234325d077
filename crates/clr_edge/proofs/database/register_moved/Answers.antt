use Rattle.std.proofs.Common.{◌∙◌, refl, subst, sym}
use Rattle.sqlite.specs.Held.{Held, state}
use Rattle.clr_load.proofs.Loading.{has_meta}
use Rattle.clr_store.proofs.Versions.{two_has}
use Rattle.clr_load.specs.Tables.{tables_of}
use Rattle.clr_edge.specs.Database.{IsDatabaseFault, IsMoved}
use Rattle.clr_edge.proofs.Databases.{IsAsBefore-settled, IsSettled, move_fault}
use Rattle.clr_edge.proofs.database.register_moved.Goals as goal

-- the store whose tables were moved, whose connection is given back
pub returns-in-Ok-clause-moved : goal.returns-in-Ok-clause-moved
returns-in-Ok-clause-moved g c =
    let is : IsSettled (state g.S.Store c.in-Ok.store) =
    subst (λ (h : Held g.row.S.Denot). IsSettled (state g.S.Store h)) c.end-connection.ensures.connection c.settled-in-Ok.ensures in
    let moved : IsMoved g.S.Store c.args.connection c.in-Ok.store = record {
      has_meta = c.in-Ok.ensures.bare;
      mode = c.in-Ok.ensures.mode;
      version = c.in-Ok.ensures.version;
      alone = c.in-Ok.ensures.alone;
      laid_out = c.in-Ok.ensures.laid_out;
      there = c.in-Ok.ensures.there;
      moved = c.in-Ok.ensures.moved;
      register = c.in-Ok.ensures.register;
      same = c.in-Ok.ensures.opened;
      committed = λ clean was_open shown auto meta has two. sym (is (c.in-Ok.ensures.mode ∙ auto) shown) ∙ (c.in-Ok.ensures.opened clean shown meta has two ∙ c.settled.ensures auto was_open);
      survives = c.in-Ok.ensures.crash_moved;
    } in
    subst (λ (after : Held g.row.S.Denot). IsMoved g.S.Store c.args.connection after) (sym c.end-connection.ensures.connection) moved

pub returns-in-Err-clause-unmoved : goal.returns-in-Err-clause-unmoved
returns-in-Err-clause-unmoved g c = record {
  fault = c.in-Err.field-0.fault;
  told_is = c.from.ensures;
  bare = c.in-Err.ensures.bare;
  unread = c.in-Err.ensures.unread;
  refuses = c.in-Err.ensures.refused;
  other = c.in-Err.ensures.other;
  cause = c.in-Err.ensures.cause;
  points_cause = c.in-Err.ensures.points_cause;
  as_before =
      IsAsBefore-settled g.S.Store c.args.connection c.in-Err.field-0.connection c.in-Err.ensures.mode c.in-Err.ensures.none
      c.settled.ensures c.settled-in-Err.ensures;
  survives = c.in-Err.ensures.crash_none;
}

-- tables of a register are of the version that is read
pub returns-in-Err-clause-known : goal.returns-in-Err-clause-known
returns-in-Err-clause-known g c R known clean =
    subst (λ fault. IsDatabaseFault fault) (sym c.from.ensures)
    (move_fault R _ (λ is. c.in-Err.ensures.other clean is 2 (two_has _ (tables_of R) known.tables refl)) (c.in-Err.ensures.unread
    clean (tables_of R).meta (has_meta known.tables.layout _ (tables_of R) known.tables.here)))
