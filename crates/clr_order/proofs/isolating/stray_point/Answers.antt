use Rattle.std.proofs.Common.{◌∙◌, ap, map}
use Rattle.clr_order.specs.Step.{stray_point, task}
use Rattle.clr_order.proofs.Steps.{names_themselves}
use Rattle.clr_order.proofs.isolating.stray_point.Goals as goal

pub returns : goal.returns
returns c = c.stray_point.ensures ∙ ap (λ names. stray_point names (map task c.args.steps.now)) (names_themselves c.args.points.now)
