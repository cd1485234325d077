use Rattle.std.proofs.Common.{◌∙◌, ap}
use Rattle.clr_wayback.proofs.SentBack.{all_sent, lines_read_back}
use Rattle.clr_wayback.specs.Text.{commands_read}
use Rattle.clr_wayback.proofs.print.print_way_back.Goals as goal

pub returns-clause-reads : goal.returns-clause-reads
returns-clause-reads c stated =
    let commands = c.args.commands.now in
    ap commands_read c.in_ok-text.ensures ∙ lines_read_back commands (all_sent commands c.all_read_back.ensures stated)
