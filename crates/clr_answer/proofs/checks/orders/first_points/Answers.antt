use Rattle.std.proofs.Common.{◌≡◌, ◌∙◌, ◌+◌, ◌++◌, [], ◌∷◌, true, false, Bor, Global}
use Rattle.std.proofs.Common.{List, Vec, ap, drop, refl, sym, map}
use Rattle.clr_rules.specs.Steps.{is_of_round, points_of, steps_in}
use Rattle.clr_net.specs.declared.name.Name.{Name}
use Rattle.clr_rules.specs.declared.step_row.StepRow.{StepRow}
use Rattle.clr_answer.proofs.RowLoops.{kept_more, passed_over}
use Rattle.clr_answer.proofs.checks.orders.first_points.Goals as goal
use Rattle.clr_answer.proofs.checks.orders.first_points.Goals.{then-is_of_round+in_ok-push}
use Rattle.clr_answer.proofs.checks.orders.first_points.Goals.{else-is_of_round}

pub loop-row-preserved : goal.loop-row-preserved
unfolding steps_in
loop-row-preserved c =
    let gives = λ (rows : List (Bor StepRow)).
    points_of (steps_in (map (λ row. row.now) rows) c.args.id 1) in
    let rows = c.deref-row-items.result.now in
    let i = c.loop-row.row-index in
    let row = c.row-item.result in
    let rest = drop (i + 1) rows in
    let kept = c.loop-row.points.items in
    elim c.if-is_of_round.branch [
      | then-is_of_round+in_ok-push w ↦
          let counts : is_of_round c.args.id 1 row.now ≡ true =
          sym c.is_of_round.ensures ∙ w.if-is_of_round.true in
          let takes : gives (row ∷ rest) ≡ (row.now.step.point ∷ []) ++ gives rest =
          rw counts refl in
          rw (ap (λ (v : Vec Name Global). v.items) w.points-is ∙ w.in_ok-push.ensures.items)
          (kept_more gives kept (row.now.step.point ∷ []) rows i row _ c.row-item.is
          c.loop-row-test.true takes c.loop-row.invariant)
      | else-is_of_round w ↦
          let counts : is_of_round c.args.id 1 row.now ≡ false =
          sym c.is_of_round.ensures ∙ w.if-is_of_round.false in
          let passes : gives (row ∷ rest) ≡ gives rest = rw counts refl in
          rw (ap (λ (v : Vec Name Global). v.items) w.points-is)
          (passed_over (λ left. kept ++ gives left) rows i row _ c.row-item.is
          c.loop-row-test.true (ap (λ more. kept ++ more) passes) c.loop-row.invariant)
    ]
