use Rattle.clr_desk.proofs.archiving.left_of.Goals as goal

pub returns : goal.returns
returns c = record { keys = c.in_ok-keys.ensures; register = c.in_ok-book.ensures.register }
