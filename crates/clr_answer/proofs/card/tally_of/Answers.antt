use Rattle.clr_answer.proofs.PutSteps.{each_once-from_order}
use Rattle.clr_answer.proofs.StepCounts.{round_done, round_length}
use Rattle.clr_answer.proofs.card.tally_of.Goals as goal

pub returns-clause-steps : goal.returns-clause-steps
returns-clause-steps c =
    rw (c.kept_tally-kept.ensures.steps, c.added_tally-added.ensures.steps) (round_length c.args.put.now c.args.near.now.rows.steps c.args.id c.args.round (each_once-from_order c.args.put.now c.requires))

pub returns-clause-done : goal.returns-clause-done
returns-clause-done c =
    rw (c.kept_tally-kept.ensures.done, c.added_tally-added.ensures.done) (round_done c.args.put.now c.args.near.now.rows.steps c.args.id c.args.round (each_once-from_order c.args.put.now c.requires))
