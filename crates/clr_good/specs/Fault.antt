-- The first list of a register that does not fit.
use Rattle.std.specs.Prelude.{Bool, true, false, ◌&&◌, Option, None, Some}
use Rattle.clr_rules.specs.Prelude.{Register}
use Rattle.clr_good.specs.Points.{points_fit}
use Rattle.clr_good.specs.Clearances.{clearances_fit}
use Rattle.clr_good.specs.Steps.{steps_fit}
use Rattle.clr_good.specs.Holds.{holds_fit}
use Rattle.clr_good.specs.Staffed.{holders_fit, holds_staffed, steps_staffed}
use Rattle.clr_good.specs.declared.fault.ListAtFault.{ListAtFault}
use Rattle.clr_good.specs.declared.fault.ListAtFault.TheVariants.{Points, Clearances, Steps, Holds}

-- a list that does not fit, before those that come after it
abbrev pub unless_fits : Bool → ListAtFault → Option ListAtFault → Option ListAtFault
unless_fits true list rest = rest
unless_fits false list rest = Some list

-- each list is asked for what makes a register good, and then staffed
abbrev pub list_at_fault : Register → Option ListAtFault
list_at_fault R = unless_fits (points_fit R) Points
    (unless_fits (clearances_fit R && holders_fit R) Clearances
    (unless_fits (steps_fit R && steps_staffed R) Steps
    (unless_fits (holds_fit R && holds_staffed R) Holds None)))
