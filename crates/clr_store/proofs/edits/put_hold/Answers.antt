use Rattle.clr_store.proofs.edits.put_hold.Goals as goal

pub returns : goal.returns
returns g c =
    rw (c.text_value.ensures, c.text.ensures, c.name_value.ensures, c.name_value-2.ensures, c.requester-requester.ensures, c.number_value.ensures, c.from.ensures, c.number.ensures.value) at c.put_new.ensures
