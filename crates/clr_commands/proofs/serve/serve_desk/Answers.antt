use Rattle.std.proofs.Common.{rules}
use Rattle.clr_commands.proofs.Connections.{early_only, server_cut, server_ended, went_as}
use Rattle.clr_commands.proofs.serve.serve_desk.Goals as goal

-- the port was listened on, its line went out, and its connections were taken
pub returns-clause-served : goal.returns-clause-served
returns-clause-served g c =
    server_ended _ _ _ _ _ _ _ _ _ _ _ c.in_ok-listener.listener _ c.listen.new.net _ c.in_ok-listener.ensures.stands
    (went_as _ _ _ _ _ (search rules) c.in_ok-write_out.ensures.whole)
    c.serve_connections.ensures.taken c.serve_connections.ensures.run c.serve_connections.ensures.ended

-- only where connections were served is the desk not as it was
pub returns-clause-unserved : goal.returns-clause-unserved
returns-clause-unserved g c = early_only c.serve_connections.result _ c.serve_connections.ensures.fault

-- its line could not be written
pub returns-in_err-write_out-clause-served : goal.returns-in_err-write_out-clause-served
returns-in_err-write_out-clause-served g c =
    server_cut _ _ _ _ _ _ _ _ _ c.in_err-write_out.field-0.0 c.as_str.result.now c.in_ok-listener.listener _ _
    c.from_residual-in_err-write_out.ensures.1 c.in_err-write_out.ensures.fault c.in_ok-listener.ensures.stands (search rules) c.in_err-write_out.ensures.cut

-- a desk that was not asked is as it was
pub returns-in_err-listener-clause-led : goal.returns-in_err-listener-clause-led
returns-in_err-listener-clause-led g c = g.met.D.Registrar.stays c.args.desk.now

pub returns-in_err-write_out-clause-led : goal.returns-in_err-write_out-clause-led
returns-in_err-write_out-clause-led g c = g.met.D.Registrar.stays c.args.desk.now
