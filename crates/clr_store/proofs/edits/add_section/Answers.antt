use Rattle.clr_store.proofs.Given.{bound_flag}
use Rattle.clr_store.proofs.edits.add_section.Goals as goal

pub returns : goal.returns
returns g c =
    rw (c.name_value.ensures, c.flag_value.ensures, bound_flag c.args.section.now.source) at c.put_new.ensures
