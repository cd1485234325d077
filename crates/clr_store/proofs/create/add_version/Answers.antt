use Rattle.clr_store.proofs.create.add_version.Goals as goal

pub returns : goal.returns
returns g c = rw (c.text_value.ensures, c.number_value.ensures) at c.insert_row.ensures
