use Rattle.std.proofs.Common.{inl, inr, refl}
use Rattle.clr_keeping.specs.Keeping.{IsNotUp, plain}
use Rattle.clr_keeping.specs.TakenUp.{IsOfTakingUp}
use Rattle.clr_edge.proofs.Databases.{IfErr-passed}
use Rattle.clr_keeping.proofs.Keeping.{of_database-taking, of_tables}
use Rattle.clr_keeping.proofs.taking_up.open_desk.Goals as goal

-- the tables were read
pub returns-in-Ok-clause-up : goal.returns-in-Ok-clause-up
returns-in-Ok-clause-up g c = record {
  before = c.in_ok-connection.connection;
  middle = c.stored.new.self;
  opened = c.in_ok-connection.ensures.opens;
  mode = c.in_ok-connection.ensures.mode;
  good = c.in-Ok.ensures.good;
  staffed = c.in-Ok.ensures.staffed;
  uncounted = c.in-Ok.ensures.faults;
  taken_up = (
    refl,
    record {
      read = c.in-Ok.ensures.read;
      fit = (c.in-Ok.ensures.good, c.in-Ok.ensures.staffed);
      is_register = c.in-Ok.ensures.register;
      reads = c.in-Ok.ensures.reads;
    },
  );
}

-- or refused, and the database closed
pub returns-in-Err-clause-none : goal.returns-in-Err-clause-none
returns-in-Err-clause-none g c = inr (record {
  before = c.in_ok-connection.connection;
  after = c.in-Err.connection;
  closed = c.close-closed.result;
  middle = c.stored.new.self;
  later = c.stored.new.self;
  opened = c.in_ok-connection.ensures.opens;
  mode = c.in_ok-connection.ensures.mode;
  does = (refl, record { refused = c.in-Err.ensures.told; survives = c.in-Err.ensures.unread; known = c.in-Err.ensures.fault });
  ended = c.close-closed.ensures;
})

pub returns-in-Err-clause-fault : goal.returns-in-Err-clause-fault
returns-in-Err-clause-fault g c = of_tables c.in-Err.ensures.told.fault c.in-Err.fault c.in-Err.ensures.told.told_is

-- the database was not opened
pub returns-in_err-connection-clause-none : goal.returns-in_err-connection-clause-none
returns-in_err-connection-clause-none g c =
    IfErr-passed _ _ (IsNotUp g.R.Databases.opens g.R.Databases.shuts g.R.Databases.ends c.args.path.now (plain g.R.Tables.Store) c.args.rt.now c.stored.new.self)
    c.from_residual.ensures.1 (inl (_, refl, c.in_err-connection.ensures.shuts))

pub returns-in_err-connection-clause-fault : goal.returns-in_err-connection-clause-fault
returns-in_err-connection-clause-fault g c =
    IfErr-passed _ _ (λ fault. IsOfTakingUp fault) c.from_residual.ensures.1 (of_database-taking _)
