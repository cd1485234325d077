use Rattle.clr_known.proofs.old_tables.put_jones.Goals as goal

pub returns : goal.returns
returns g c = c.put.ensures
