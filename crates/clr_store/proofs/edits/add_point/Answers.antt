use Rattle.clr_store.proofs.edits.add_point.Goals as goal

pub returns : goal.returns
returns g c = rw c.point_values-row.ensures.row at c.put_new.ensures
