use Rattle.std.proofs.Common.{◌≡◌, ◌∙◌, ◌+◌, ◌++◌, [], ◌∷◌, true, false, Bor, Global}
use Rattle.std.proofs.Common.{List, Vec, ap, drop, refl, sym, map, filter}
use Rattle.std.proofs.lemmas.List.{map-append}
use Rattle.clr_net.specs.Names.{has_name}
use Rattle.clr_net.specs.Fence.{touches}
use Rattle.clr_net.specs.declared.point.PointRow.{PointRow}
use Rattle.clr_answer.proofs.RowLoops.{kept_more, passed_over}
use Rattle.clr_answer.proofs.fences.touching_points.Goals as goal
use Rattle.clr_answer.proofs.fences.touching_points.Goals.{then-touches_from+in_ok-push, else-touches_from}

pub loop-row-preserved : goal.loop-row-preserved
loop-row-preserved c =
    let gives = λ (rows : List (Bor PointRow)).
    filter (touches (has_name c.args.fence.now)) (map (λ row. row.now) rows) in
    let rows = c.args.rows.now in
    let i = c.loop-row.row-index in
    let row = c.row-item.result in
    let rest = drop (i + 1) rows in
    let shows = λ (row : Bor PointRow). row.now in
    let held = c.loop-row.kept.items in
    let kept = map shows held in
    let items = λ (v : Vec (Bor PointRow) Global). v.items in
    elim c.if-touches_from.branch [
      | then-touches_from+in_ok-push w ↦
          let counts : touches (has_name c.args.fence.now) row.now ≡ true =
          sym c.touches_from.ensures ∙ w.if-touches_from.true in
          let takes : gives (row ∷ rest) ≡ (row.now ∷ []) ++ gives rest = rw counts refl in
          rw (
            ap items w.kept-is ∙ w.in_ok-push.ensures.items,
            map-append shows held (row ∷ []),
          )
          (kept_more gives kept (row.now ∷ []) rows i row _ c.row-item.is
          c.loop-row-test.true takes c.loop-row.invariant)
      | else-touches_from w ↦
          let counts : touches (has_name c.args.fence.now) row.now ≡ false =
          sym c.touches_from.ensures ∙ w.if-touches_from.false in
          let passes : gives (row ∷ rest) ≡ gives rest = rw counts refl in
          rw (ap items w.kept-is)
          (passed_over (λ left. kept ++ gives left) rows i row _ c.row-item.is
          c.loop-row-test.true (ap (λ more. kept ++ more) passes) c.loop-row.invariant)
    ]
