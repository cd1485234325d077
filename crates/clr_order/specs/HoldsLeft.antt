-- The holds that are still at a point, as steps take them off.
use Rattle.std.specs.Prelude.{Bool, List}
use Rattle.clr_order.specs.Needed.{undoes}
use Rattle.clr_order.specs.declared.action.Action.{Action}
use Rattle.clr_order.specs.declared.holds_left.HoldsLeft.{HoldsLeft}

-- whether the actions take off what is left
abbrev pub are_undone : HoldsLeft → List Action → Bool
are_undone left actions = undoes left.tag left.control left.block left.held actions
