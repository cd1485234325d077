use Rattle.clr_store.proofs.place.add_place.Goals as goal

pub returns : goal.returns
returns g c = rw c.place_values-row.ensures.row at c.insert_place.ensures
