use Rattle.std.proofs.Common.{string_bytes}
use Rattle.clr_log.proofs.CommandsTaken.{wrote_some}
use Rattle.clr_log.proofs.walked.WalkedCommands.push.Goals as goal

pub returns-in-Some : goal.returns-in-Some
returns-in-Some c =
    wrote_some c.push_one.result c.args.self.now.wanted c.args.done c.in-Some.one (string_bytes c.args.out.now) (string_bytes c.push_one.new.out) c.in-Some.is
    c.push_one.ensures
