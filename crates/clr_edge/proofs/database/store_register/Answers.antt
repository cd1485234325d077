use Rattle.std.proofs.Common.{ap, inr, refl}
use Rattle.clr_edge.specs.Visit.{reported}
use Rattle.clr_edge.proofs.database.store_register.Goals as goal

-- the register was made over the connection to that database, which was closed
pub returns : goal.returns
returns g c = inr (record {
  before = c.in_ok-connection.connection;
  after = c.register_made-made.result.1;
  closed = c.close-closed.result;
  middle = c.database.new.self;
  later = c.database.new.self;
  opened = c.in_ok-connection.ensures.makes;
  mode = c.in_ok-connection.ensures.mode;
  does = (
    refl,
    record {
      told = c.register_made-made.result.0;
      made = c.register_made-made.ensures.made;
      unmade = c.register_made-made.ensures.unmade;
      result_is = ap reported c.and.ensures;
    },
  );
  ended = c.close-closed.ensures;
})
