use Rattle.std.proofs.Common.{◌∙◌, List, ap}
use Rattle.clr_rules.specs.declared.step_row.StepRow.{StepRow}
use Rattle.clr_answer.specs.Card.{progress_of, put_all}
use Rattle.clr_answer.specs.Decision.{all_edits}
use Rattle.clr_answer.proofs.CardFacts.{card_is}
use Rattle.clr_answer.proofs.DecisionFacts.{steps_stay}
use Rattle.clr_answer.proofs.decision.accept.Goals as goal

pub returns-clause-answer : goal.returns-clause-answer
returns-clause-answer c =
    let R = c.args.near.now.rows in
    let e = c.args.effect in
    let r = e.clearance in
    card_is R e.lead.items r e.steps.items c.progress_with-progress.result c.in_ok-all.all.items c.card_with-card.result
    (steps_stay e.lead.items R c.requires.lead)
    (c.progress_with-progress.ensures ∙ ap (λ (rows : List StepRow). progress_of (put_all rows R.steps) r.id) c.deref.ensures.value)
    (c.in_ok-all.ensures ∙ ap (all_edits e.lead.items r) c.deref-2.ensures.value)
    c.card_with-card.ensures
