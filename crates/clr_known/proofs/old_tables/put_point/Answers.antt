use Rattle.clr_known.proofs.old_tables.put_point.Goals as goal

pub returns : goal.returns
returns g c = rw (c.number_value.ensures, c.number_value-2.ensures, c.number_value-3.ensures) at c.put.ensures
