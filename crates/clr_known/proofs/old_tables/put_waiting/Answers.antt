use Rattle.clr_known.proofs.old_tables.put_waiting.Goals as goal

pub returns : goal.returns
returns g c = rw c.number_value.ensures at c.put.ensures
