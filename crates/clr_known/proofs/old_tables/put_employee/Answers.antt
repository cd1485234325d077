use Rattle.clr_known.proofs.old_tables.put_employee.Goals as goal

pub returns : goal.returns
returns g c = c.put.ensures
