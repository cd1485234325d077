use Rattle.clr_text.proofs.CommandsSent.{taken_can_be_sent}
use Rattle.clr_text.proofs.sent.can_be_sent.Goals as goal

pub returns : goal.returns
returns c stated = taken_can_be_sent c.args.command.now c.taken.ensures c.taken-2.ensures c.own_taken.ensures stated
