use Rattle.clr_store.proofs.place.set_place.Goals as goal

pub returns : goal.returns
returns g c = rw c.place_values-row.ensures.row at c.put_one.ensures
