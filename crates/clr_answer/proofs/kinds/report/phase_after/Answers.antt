use Rattle.clr_answer.proofs.Phases.{phase_ends, phase_goes_on}
use Rattle.clr_answer.proofs.kinds.report.phase_after.Goals as goal
use Rattle.std.proofs.Common.{arith, rules}
use Rattle.std.proofs.lemmas.Grind.{common_steps}

pub returns-then-progress : goal.returns-then-progress
returns-then-progress c =
    phase_ends c.args.near.now.rows.steps c.args.clearance.now c.args.done c.progress_with-progress.result c.progress_with-progress.ensures (first_of (search rules, grind (arith, common_steps)))
    (first_of (search rules, grind (arith, common_steps)))

pub returns : goal.returns
returns c =
    phase_goes_on c.args.near.now.rows.steps c.args.clearance.now c.args.done c.progress_with-progress.result c.progress_with-progress.ensures (first_of (search rules, grind (arith, common_steps)))
    (first_of (search rules, grind (arith, common_steps)))
