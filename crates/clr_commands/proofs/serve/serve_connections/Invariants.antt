use Rattle.clr_commands.specs.Connections.{TakesFirst, seen}
use Rattle.clr_commands.proofs.serve.serve_connections.Given as goal

-- the first connections were taken, each answered from the register that the one before left
abbrev pub invariant-loop-done : goal.invariant-loop-done
invariant-loop-done g l = record {
  taken : TakesFirst g.D.Registrar g.L.Loopback (seen g.L.Reader.Read.remaining g.L.Reader.CountedRead.failure_count g.L.Writer.CountedWrite.stream)
      l.fn.terms l.fn.listener l.done l.fn.desk l.desk
      (g.E.CountedWrite.stream l.fn.errors) (g.E.CountedWrite.stream l.errors) l.fn.net l.net;
  led : g.D.Registrar.leads_to l.fn.desk l.desk;
}
