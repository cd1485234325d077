use Rattle.clr_changes.proofs.update.Update.is_read.Goals as goal

pub returns : goal.returns
returns c = record { network = c.is_network.ensures; staff = c.is_staff.ensures }
