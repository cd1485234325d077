use Rattle.std.proofs.Common.{List, map, Bor}
use Rattle.clr_rules.specs.declared.command.Command.{Command}
use Rattle.clr_wayback.proofs.SentBack.{all_sent, lines_read_back}
use Rattle.clr_log.proofs.commands.commands_read_back.Goals as goal

abbrev asked_in : List (Bor Command) → List Command
asked_in commands = map (λ one. one.now) commands

pub returns : goal.returns
returns c stated =
    let commands = asked_in c.args.commands.now in
    lines_read_back commands (all_sent commands c.all_read_back.ensures stated)
