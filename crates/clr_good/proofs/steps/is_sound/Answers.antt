use Rattle.std.proofs.Common.{◌∙◌, ap, map, is_ok}
use Rattle.clr_rules.proofs.Common.{isolating_fault, task}
use Rattle.clr_good.proofs.CodeFacts.{no_fault_told}
use Rattle.clr_good.proofs.steps.is_sound.Goals as goal

pub returns : goal.returns
returns c =
    c.is_ok.ensures.value ∙ ap is_ok c.check_isolating.ensures.first ∙ no_fault_told (isolating_fault c.args.fence.now c.args.points.now (map task c.args.steps.now))
