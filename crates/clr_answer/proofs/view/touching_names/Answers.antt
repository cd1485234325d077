use Rattle.std.proofs.Common.{◌≡◌, ◌∙◌, ◌+◌, ◌++◌, [], ◌∷◌, true, false, Bor, Global}
use Rattle.std.proofs.Common.{List, Vec, ap, drop, refl, sym, map, filter}
use Rattle.clr_net.specs.Grid.{point_names, unplaced}
use Rattle.clr_net.specs.Names.{has_name}
use Rattle.clr_rules.specs.Fences.{touching_names}
use Rattle.clr_net.specs.Fence.{touches}
use Rattle.clr_net.specs.declared.name.Name.{Name}
use Rattle.clr_net.specs.declared.point.PointRow.{PointRow}
use Rattle.clr_answer.proofs.RowLoops.{kept_more, passed_over}
use Rattle.clr_answer.proofs.view.touching_names.Goals as goal
use Rattle.clr_answer.proofs.view.touching_names.Goals.{then-touches+in_ok-push, else-touches}

pub loop-point-preserved : goal.loop-point-preserved
unfolding touching_names
loop-point-preserved c =
    let gives = λ (rows : List (Bor PointRow)).
    point_names (filter (touches (has_name c.args.fence.now))
    (map (λ row. unplaced row.now) rows)) in
    let rows = c.deref-point-items.result.now in
    let i = c.loop-point.point-index in
    let row = c.point-item.result in
    let rest = drop (i + 1) rows in
    let kept = c.loop-point.names.items in
    elim c.if-touches.branch [
      | then-touches+in_ok-push w ↦
          let counts : touches (has_name c.args.fence.now) row.now ≡ true =
          sym c.touches.ensures ∙ w.if-touches.true in
          let takes : gives (row ∷ rest) ≡ (row.now.name ∷ []) ++ gives rest = rw counts refl in
          rw (ap (λ (v : Vec Name Global). v.items) w.names-is ∙ w.in_ok-push.ensures.items)
          (kept_more gives kept (row.now.name ∷ []) rows i row _ c.point-item.is
          c.loop-point-test.true takes c.loop-point.invariant)
      | else-touches w ↦
          let counts : touches (has_name c.args.fence.now) row.now ≡ false =
          sym c.touches.ensures ∙ w.if-touches.false in
          let passes : gives (row ∷ rest) ≡ gives rest = rw counts refl in
          rw (ap (λ (v : Vec Name Global). v.items) w.names-is)
          (passed_over (λ left. kept ++ gives left) rows i row _ c.point-item.is
          c.loop-point-test.true (ap (λ more. kept ++ more) passes) c.loop-point.invariant)
    ]
