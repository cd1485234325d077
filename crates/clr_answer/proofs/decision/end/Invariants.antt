use Rattle.std.proofs.Common.{◌≡◌, ◌++◌, drop}
use Rattle.clr_rules.specs.Changes.{put_steps}
use Rattle.clr_answer.specs.Decision.{all_edits}
use Rattle.clr_answer.proofs.decision.end.Given as goal

abbrev pub invariant-loop-row : goal.invariant-loop-row
invariant-loop-row l = l.all.items ++ put_steps (drop l.row-index l.steps) ≡ all_edits l.fn.edits.items l.fn.clearance l.fn.steps
