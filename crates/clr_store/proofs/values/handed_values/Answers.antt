use Rattle.std.proofs.Common.{refl}
use Rattle.clr_store.proofs.Given.{bound_flag, bound_position, flag_fits, position_fits}
use Rattle.clr_store.proofs.values.handed_values.Goals as goal

pub returns-clause-row : goal.returns-clause-row
returns-clause-row c =
    rw (c.name_value.ensures, c.name_value-2.ensures, c.name_value-3.ensures, c.flag_value.ensures, bound_flag c.args.point.now.lockable, c.flag_value-2.ensures, bound_flag c.args.point.now.remote, c.position_value.ensures, bound_position c.args.position, c.name_value-4.ensures, c.number_value.ensures, c.from.ensures, c.flag_value-3.ensures, bound_flag c.args.point.now.jumper) refl

pub returns-clause-fits : goal.returns-clause-fits
returns-clause-fits c =
    rw (c.name_value.ensures, c.name_value-2.ensures, c.name_value-3.ensures, c.flag_value.ensures, bound_flag c.args.point.now.lockable, flag_fits c.args.point.now.lockable, c.flag_value-2.ensures, bound_flag c.args.point.now.remote, flag_fits c.args.point.now.remote, c.position_value.ensures, bound_position c.args.position, position_fits c.args.position, c.name_value-4.ensures, c.number_value.ensures, c.flag_value-3.ensures, bound_flag c.args.point.now.jumper, flag_fits c.args.point.now.jumper) refl
