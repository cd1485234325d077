use Rattle.std.proofs.Common.{◌≡◌, ◌∙◌, ◌+◌, ◌++◌, [], ◌∷◌, true, false, Bor, Global}
use Rattle.std.proofs.Common.{List, Vec, ap, drop, refl, sym, map, filter, None}
use Rattle.clr_net.specs.Names.{has_name}
use Rattle.clr_rules.specs.Holds.{is_near_hold}
use Rattle.clr_rules.specs.declared.hold.Hold.{Hold}
use Rattle.clr_answer.proofs.RowLoops.{kept_more, passed_over}
use Rattle.clr_answer.proofs.view.holds_at.Goals as goal
use Rattle.clr_answer.proofs.view.holds_at.Goals.{then-is_near_hold+in_ok-push, else-is_near_hold}

pub loop-hold-preserved : goal.loop-hold-preserved
loop-hold-preserved c =
    let stands = is_near_hold (has_name c.args.fence.now) (has_name c.args.touching.now) None in
    let gives = λ (rows : List (Bor Hold)).
    filter stands (map (λ row. row.now) rows) in
    let rows = c.deref-hold-items.result.now in
    let i = c.loop-hold.hold-index in
    let row = c.hold-item.result in
    let rest = drop (i + 1) rows in
    let kept = c.loop-hold.holds.items in
    elim c.if-is_near_hold.branch [
      | then-is_near_hold+in_ok-push w ↦
          let counts : stands row.now ≡ true =
          sym c.is_near_hold.ensures ∙ w.if-is_near_hold.true in
          let takes : gives (row ∷ rest) ≡ (row.now ∷ []) ++ gives rest = rw counts refl in
          rw (ap (λ (v : Vec Hold Global). v.items) w.holds-is ∙ w.in_ok-push.ensures.items)
          (kept_more gives kept (row.now ∷ []) rows i row _ c.hold-item.is
          c.loop-hold-test.true takes c.loop-hold.invariant)
      | else-is_near_hold w ↦
          let counts : stands row.now ≡ false =
          sym c.is_near_hold.ensures ∙ w.if-is_near_hold.false in
          let passes : gives (row ∷ rest) ≡ gives rest = rw counts refl in
          rw (ap (λ (v : Vec Hold Global). v.items) w.holds-is)
          (passed_over (λ left. kept ++ gives left) rows i row _ c.hold-item.is
          c.loop-hold-test.true (ap (λ more. kept ++ more) passes) c.loop-hold.invariant)
    ]
