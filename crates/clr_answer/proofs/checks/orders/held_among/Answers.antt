use Rattle.std.proofs.Common.{◌≡◌, ◌∙◌, ◌+◌, ◌++◌, [], ◌∷◌, true, false, Global}
use Rattle.std.proofs.Common.{List, Vec, ap, drop, refl, sym, map, filter}
use Rattle.clr_order.specs.declared.held.Held.{Held}
use Rattle.clr_rules.specs.Holds.{has_hold, held_at}
use Rattle.clr_rules.specs.declared.hold_kind.HoldKind.TheVariants.{HeldOpen}
use Rattle.clr_net.specs.declared.name.Name.{Name}
use Rattle.clr_answer.proofs.RowLoops.{kept_more, passed_over}
use Rattle.clr_answer.proofs.checks.orders.held_among.Goals as goal
use Rattle.clr_answer.proofs.checks.orders.held_among.Goals.{then-has_hold+in_ok-push, else-has_hold}

pub loop-point-preserved : goal.loop-point-preserved
loop-point-preserved c =
    let gives = λ (rows : List Name).
    map (held_at c.args.near.now.rows.holds c.args.id)
    (filter (has_hold c.args.near.now.rows.holds c.args.id HeldOpen) rows) in
    let rows = c.args.points.now in
    let i = c.loop-point.point-index in
    let row = c.point-item.result in
    let rest = drop (i + 1) rows in
    let kept = c.loop-point.held.items in
    let at_row = held_at c.args.near.now.rows.holds c.args.id row in
    elim c.if-has_hold.branch [
      | then-has_hold+in_ok-push w ↦
          let counts : has_hold c.args.near.now.rows.holds c.args.id HeldOpen row ≡ true =
          sym c.has_hold.ensures ∙ w.if-has_hold.true in
          let takes : gives (row ∷ rest) ≡ (at_row ∷ []) ++ gives rest = rw counts refl in
          rw (
            ap (λ (v : Vec Held Global). v.items) w.held-is ∙ w.in_ok-push.ensures.items,
            w.held_at.ensures,
          )
          (kept_more gives kept (at_row ∷ []) rows i row _ c.point-item.is
          c.loop-point-test.true takes c.loop-point.invariant)
      | else-has_hold w ↦
          let counts : has_hold c.args.near.now.rows.holds c.args.id HeldOpen row ≡ false =
          sym c.has_hold.ensures ∙ w.if-has_hold.false in
          let passes : gives (row ∷ rest) ≡ gives rest = rw counts refl in
          rw (ap (λ (v : Vec Held Global). v.items) w.held-is)
          (passed_over (λ left. kept ++ gives left) rows i row _ c.point-item.is
          c.loop-point-test.true (ap (λ more. kept ++ more) passes) c.loop-point.invariant)
    ]
