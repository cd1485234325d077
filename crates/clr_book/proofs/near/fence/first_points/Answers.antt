use Rattle.std.proofs.Common.{◌≡◌, ◌∙◌, ◌+◌, ◌++◌, [], ◌∷◌, true, false, Bor, Global}
use Rattle.std.proofs.Common.{List, Vec, ap, drop, refl, rules, map, filter, ◌==◌}
use Rattle.clr_net.specs.declared.name.Name.{Name}
use Rattle.clr_rules.specs.declared.step_row.StepRow.{StepRow}
use Rattle.clr_answer.proofs.RowLoops.{kept_more, passed_over}
use Rattle.clr_book.proofs.near.fence.first_points.Goals as goal
use Rattle.clr_book.proofs.near.fence.first_points.Goals.{then-row-eq1+in_ok-push, else-row-eq1}

pub loop-row-preserved : goal.loop-row-preserved
loop-row-preserved c =
    let gives = λ (rows : List (Bor StepRow)).
    map (λ row. row.step.point) (filter (λ row. row.round == 1) (map (λ row. row.now) rows)) in
    let rows = c.args.steps.now in
    let i = c.loop-row.row-index in
    let row = c.row-item.result in
    let rest = drop (i + 1) rows in
    let kept = c.loop-row.points.items in
    elim c.if-row-eq1.branch [
      | then-row-eq1+in_ok-push w ↦
          let counts : (row.now.round == 1) ≡ true =
          rw w.if-row-eq1.true refl in
          let takes : gives (row ∷ rest) ≡ (row.now.step.point ∷ []) ++ gives rest =
          rw counts refl in
          rw (ap (λ (v : Vec Name Global). v.items) w.points-is ∙ w.in_ok-push.ensures.items)
          (kept_more gives kept (row.now.step.point ∷ []) rows i row _ c.row-item.is
          c.loop-row-test.true takes c.loop-row.invariant)
      | else-row-eq1 w ↦
          let counts : (row.now.round == 1) ≡ false =
          search rules in
          let passes : gives (row ∷ rest) ≡ gives rest = rw counts refl in
          rw (ap (λ (v : Vec Name Global). v.items) w.points-is)
          (passed_over (λ left. kept ++ gives left) rows i row _ c.row-item.is
          c.loop-row-test.true (ap (λ more. kept ++ more) passes) c.loop-row.invariant)
    ]
