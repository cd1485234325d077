use Rattle.std.proofs.Common.{string_bytes}
use Rattle.clr_log.proofs.CommandsTaken.{wrote_last}
use Rattle.clr_log.proofs.walked.WalkedCommands.end.Goals as goal

pub returns : goal.returns
returns c = record {
  text =
      wrote_last c.push.result c.args.self.now.wanted c.args.self.now.last c.take-last.result (string_bytes c.args.out.now) (string_bytes c.push.new.out)
      c.take-last.ensures.value c.args.self.now.accepted c.push.ensures;
}
