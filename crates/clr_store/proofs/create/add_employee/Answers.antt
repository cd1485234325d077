use Rattle.clr_store.proofs.Given.{bound_name}
use Rattle.clr_store.proofs.create.add_employee.Goals as goal

pub returns : goal.returns
returns g c =
    rw (c.name_value.ensures, c.text_value.ensures, c.role_word.ensures, c.name_or_null.ensures, bound_name c.args.employee.now.supervisor) at c.insert_row.ensures
