use Rattle.clr_store.proofs.migrate.set_version.Goals as goal

pub returns : goal.returns
returns g c = rw (c.text_value.ensures, c.number_value.ensures) at c.put_row.ensures
