use Rattle.std.proofs.Common.{◌∙◌, rules}
use Rattle.std.proofs.lemmas.Fn.{always_returns_same}
use Rattle.clr_rules.specs.StepKey.{step_key, step_key_cmp}
use Rattle.clr_rules.specs.declared.step_row.StepRow.{StepRow}
use Rattle.clr_answer.proofs.PutSteps.{is_put-search}
use Rattle.clr_answer.proofs.card.is_put.Goals as goal

pub returns : goal.returns
returns c =
    let by_key = c.binary_search_by.ensures.position (λ (new : StepRow). step_key_cmp (step_key new) (step_key c.args.row.now)) (always_returns_same _ _ _ (λ a r f h. search rules)) in
    c.is_ok.ensures.value ∙ is_put-search c.args.rows.now c.args.row.now c.binary_search_by.result c.requires c.binary_search_by.ensures.bound by_key
