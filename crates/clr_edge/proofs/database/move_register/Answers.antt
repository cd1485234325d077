use Rattle.std.proofs.Common.{inr, refl}
use Rattle.clr_edge.specs.Database.{IsOfStore}
use Rattle.clr_edge.proofs.Databases.{IfErr-from, IfErr-passed, IsOfStore-of, IsOfStore-of_database, first_fault-of}
use Rattle.clr_edge.proofs.database.move_register.Goals as goal

-- they were moved over the connection to that database, or not, and it was closed
pub returns-clause-visit : goal.returns-clause-visit
returns-clause-visit g c = inr (record {
  before = c.in_ok-connection.connection;
  after = c.register_moved-moved.result.1;
  closed = c.close-closed.result;
  middle = c.stored.new.self;
  later = c.stored.new.self;
  opened = c.in_ok-connection.ensures.opens;
  mode = c.in_ok-connection.ensures.mode;
  does = (
    refl,
    record {
      told = c.register_moved-moved.result.0;
      moved = c.register_moved-moved.ensures.moved;
      unmoved = c.register_moved-moved.ensures.unmoved;
      known = c.register_moved-moved.ensures.known;
      result_is = c.first_fault.ensures;
    },
  );
  ended = c.close-closed.ensures;
})

pub returns-clause-fault : goal.returns-clause-fault
returns-clause-fault g c =
    first_fault-of c.register_moved-moved.result.0 c.close-closed.result _ (λ fault. IsOfStore fault) c.first_fault.ensures
    (IfErr-from c.register_moved-moved.result.0 _ (λ fault. IsOfStore fault) (λ fault unmoved. IsOfStore-of unmoved.fault fault unmoved.told_is)
    c.register_moved-moved.ensures.unmoved)
    IsOfStore-of_database

pub returns-in_err-connection-clause-fault : goal.returns-in_err-connection-clause-fault
returns-in_err-connection-clause-fault g c =
    IfErr-passed _ _ (λ fault. IsOfStore fault) c.from_residual.ensures.1 (IsOfStore-of_database _)
