-- The steps that undo what is held at a point and leave it open, as steps that wait.
use Rattle.std.specs.Prelude.{List, map}
use Rattle.clr_order.specs.Needed.{undoing}
use Rattle.clr_order.specs.Texts.{waiting_step}
use Rattle.clr_order.specs.declared.action.Action.TheVariants.{Leave}
use Rattle.clr_order.specs.declared.held.Held.{Held}
use Rattle.clr_order.specs.declared.step.Step.{Step}
use Rattle.clr_rules.specs.WayBack.{at_held_point}

abbrev pub leaving : Held → List Step
leaving h = map waiting_step (at_held_point h (undoing h Leave))
