use Rattle.clr_store.proofs.Given.{bound_name}
use Rattle.clr_store.proofs.edits.put_record.Goals as goal

pub returns : goal.returns
returns g c =
    rw (c.name_value.ensures, c.requester-requester.ensures, c.number_value.ensures, c.from.ensures, c.number.ensures.value, c.name_value-2.ensures, c.name_or_null.ensures, bound_name c.args.row.now.work, c.text_value.ensures, c.text.ensures, c.number_value-2.ensures, c.seconds.ensures.value) at c.put.ensures
