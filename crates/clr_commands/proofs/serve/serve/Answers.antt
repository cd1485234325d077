use Rattle.std.proofs.Common.{Ok}
use Rattle.clr_commands.proofs.serve.serve.Goals as goal

-- the logins were read, if any are named
pub returns : goal.returns
returns g c = record { visit = (Ok c.in_ok-logins.logins, c.in_ok-logins.ensures, c.serve_kept.ensures.visit) }
