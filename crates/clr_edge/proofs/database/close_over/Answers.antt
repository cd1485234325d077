use Rattle.std.proofs.Common.{sym}
use Rattle.clr_edge.proofs.database.close_over.Goals as goal

pub returns-in-Ok : goal.returns-in-Ok
returns-in-Ok g c = record {
  last = c.in-Ok.ensures.ok.0;
  files_are = c.in-Ok.ensures.ok.1;
  closed_as = c.in-Ok.ensures.ok.2;
  copies = c.in-Ok.ensures.copied;
}

pub returns-in-Err : goal.returns-in-Err
returns-in-Err g c = record {
  last = c.in-Err.store;
  files_are = sym c.close.ensures;
  closed_as = c.in-Err.ensures.err.0;
  copies = (c.in-Err.error, c.fault_of.ensures, c.in-Err.ensures.err.1);
}
