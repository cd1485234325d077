use Rattle.std.proofs.Common.{rules}
use Rattle.clr_commands.proofs.Connections.{failed_reported, sends_from}
use Rattle.clr_commands.proofs.serve.report_connection.Goals as goal

pub returns-in-Err : goal.returns-in-Err
returns-in-Err g c =
    failed_reported _ c.args.served.now _ _ _ c.in-Err.is (sends_from _ _ _ _ _ _ _ (search rules) c.write_out.ensures.whole c.write_out.ensures.cut)
