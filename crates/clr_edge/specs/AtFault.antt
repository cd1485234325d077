-- THE TABLE AT FAULT of a register that is not good and staffed: that of the first of its lists
-- that does not fit the others or the staff.
use Rattle.std.specs.Prelude.{Option, option_map}
use Rattle.clr_good.specs.Fault.{list_at_fault}
use Rattle.clr_good.specs.declared.fault.ListAtFault.{ListAtFault}
use Rattle.clr_good.specs.declared.fault.ListAtFault.TheVariants.{Points, Clearances}
use Rattle.clr_good.specs.declared.fault.ListAtFault.TheVariants.{Steps, Holds}
use Rattle.clr_rules.specs.Register.{Register}
use Rattle.clr_load.specs.declared.table_name.TableName.{TableName}
use Rattle.clr_load.specs.declared.table_name.TableName.TheVariants as table

-- the table that a list is read from
abbrev pub table_of_list : ListAtFault → TableName
table_of_list Points = table.NetworkPoint
table_of_list Clearances = table.Clearance
table_of_list Steps = table.Step
table_of_list Holds = table.Hold

abbrev pub table_at_fault : Register → Option TableName
table_at_fault R = option_map table_of_list (list_at_fault R)
