use Rattle.clr_store.proofs.steps.take_step.Goals as goal

pub returns : goal.returns
returns g c =
    rw (c.name_value.ensures, c.requester-requester.ensures, c.number_value.ensures, c.from.ensures, c.number.ensures.value, c.number_value-2.ensures, c.from-2.ensures, c.number_value-3.ensures, c.from-3.ensures) at c.delete_row.ensures
