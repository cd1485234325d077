use Rattle.std.proofs.Common.{◌≡◌, ◌∙◌, ◌+◌, ◌++◌, [], ◌∷◌, true, false, Bor, Global}
use Rattle.std.proofs.Common.{List, Vec, ap, drop, refl, sym, map}
use Rattle.clr_rules.specs.Steps.{is_of_round, steps_in}
use Rattle.clr_order.specs.declared.step.Step.{Step}
use Rattle.clr_rules.specs.declared.step_row.StepRow.{StepRow}
use Rattle.clr_answer.proofs.RowLoops.{kept_more, passed_over}
use Rattle.clr_answer.proofs.view.steps_in.Goals as goal
use Rattle.clr_answer.proofs.view.steps_in.Goals.{then-is_of_round+in_ok-push, else-is_of_round}

pub loop-row-preserved : goal.loop-row-preserved
unfolding steps_in
loop-row-preserved c =
    let gives = λ (rows : List (Bor StepRow)).
    map (λ row. row.step) (steps_in (map (λ row. row.now) rows) c.args.id c.args.round) in
    let rows = c.deref-row-items.result.now in
    let i = c.loop-row.row-index in
    let row = c.row-item.result in
    let rest = drop (i + 1) rows in
    let kept = c.loop-row.steps.items in
    elim c.if-is_of_round.branch [
      | then-is_of_round+in_ok-push w ↦
          let counts : is_of_round c.args.id c.args.round row.now ≡ true =
          sym c.is_of_round.ensures ∙ w.if-is_of_round.true in
          let takes : gives (row ∷ rest) ≡ (row.now.step ∷ []) ++ gives rest = rw counts refl in
          rw (ap (λ (v : Vec Step Global). v.items) w.steps-is ∙ w.in_ok-push.ensures.items)
          (kept_more gives kept (row.now.step ∷ []) rows i row _ c.row-item.is
          c.loop-row-test.true takes c.loop-row.invariant)
      | else-is_of_round w ↦
          let counts : is_of_round c.args.id c.args.round row.now ≡ false =
          sym c.is_of_round.ensures ∙ w.if-is_of_round.false in
          let passes : gives (row ∷ rest) ≡ gives rest = rw counts refl in
          rw (ap (λ (v : Vec Step Global). v.items) w.steps-is)
          (passed_over (λ left. kept ++ gives left) rows i row _ c.row-item.is
          c.loop-row-test.true (ap (λ more. kept ++ more) passes) c.loop-row.invariant)
    ]
