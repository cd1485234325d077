use Rattle.std.proofs.Common.{◌≡◌, ◌∙◌, ◌+◌, ◌++◌, [], ◌∷◌, true, false, Bor, Global}
use Rattle.std.proofs.Common.{List, Vec, ap, drop, refl, sym, map, filter}
use Rattle.clr_net.specs.Names.{has_name}
use Rattle.clr_rules.specs.declared.point_state.PointState.{PointState}
use Rattle.clr_answer.proofs.RowLoops.{kept_more, passed_over}
use Rattle.clr_answer.proofs.view.touching_states.Goals as goal
use Rattle.clr_answer.proofs.view.touching_states.Goals.{then-is_among+in_ok-push, else-is_among}

pub loop-state-preserved : goal.loop-state-preserved
loop-state-preserved c =
    let gives = λ (rows : List (Bor PointState)).
    filter (λ state. has_name c.args.touching.now state.point) (map (λ row. row.now) rows) in
    let rows = c.deref-state-items.result.now in
    let i = c.loop-state.state-index in
    let row = c.state-item.result in
    let rest = drop (i + 1) rows in
    let kept = c.loop-state.states.items in
    elim c.if-is_among.branch [
      | then-is_among+in_ok-push w ↦
          let counts : has_name c.args.touching.now row.now.point ≡ true =
          sym c.is_among.ensures ∙ w.if-is_among.true in
          let takes : gives (row ∷ rest) ≡ (row.now ∷ []) ++ gives rest = rw counts refl in
          rw (ap (λ (v : Vec PointState Global). v.items) w.states-is ∙ w.in_ok-push.ensures.items)
          (kept_more gives kept (row.now ∷ []) rows i row _ c.state-item.is
          c.loop-state-test.true takes c.loop-state.invariant)
      | else-is_among w ↦
          let counts : has_name c.args.touching.now row.now.point ≡ false =
          sym c.is_among.ensures ∙ w.if-is_among.false in
          let passes : gives (row ∷ rest) ≡ gives rest = rw counts refl in
          rw (ap (λ (v : Vec PointState Global). v.items) w.states-is)
          (passed_over (λ left. kept ++ gives left) rows i row _ c.state-item.is
          c.loop-state-test.true (ap (λ more. kept ++ more) passes) c.loop-state.invariant)
    ]
