use Rattle.std.proofs.Common.{◌≡◌, ◌∙◌, ◌+◌, ◌∷◌, ◌&&◌, false, Bor, List, ap, drop, map, refl, sym}
use Rattle.std.specs.Ordering.{is_eq}
use Rattle.clr_rules.specs.Holds.{has_some_hold, same_kind}
use Rattle.clr_rules.specs.Id.{same_id}
use Rattle.clr_rules.specs.declared.hold.Hold.{Hold}
use Rattle.clr_answer.proofs.RowLoops.{first_fails, passed_over, second_fails}
use Rattle.clr_answer.proofs.checks.work.has_some_hold.Goals as goal
use Rattle.clr_answer.proofs.checks.work.has_some_hold.Goals.{else-eq-via-then-eq+else-is_eq}
use Rattle.clr_answer.proofs.checks.work.has_some_hold.Goals.{else-eq-via-else-eq}

pub loop-hold-preserved : goal.loop-hold-preserved
unfolding has_some_hold
loop-hold-preserved c =
    let id = c.args.id in
    let kind = c.args.kind in
    let tells = λ (rows : List (Bor Hold)). has_some_hold (map (λ row. row.now) rows) id kind in
    let rows = c.deref-hold-items.result.now in
    let i = c.loop-hold.hold-index in
    let row = c.hold-item.result in
    let rest = drop (i + 1) rows in
    let own = same_id id row.now.id in
    let alike = same_kind kind row.now.kind in
    let counts : (own && alike) ≡ false = elim c.else-eq.branch [
      | else-eq-via-then-eq+else-is_eq w ↦
          second_fails own alike (sym c.eq.ensures ∙ w.if-eq.true)
          (sym (ap is_eq w.compare_own.ensures) ∙ sym w.is_eq.ensures ∙ w.if-is_eq.false)
      | else-eq-via-else-eq w ↦ first_fails own alike (sym c.eq.ensures ∙ w.if-eq.false)
    ] in
    let passes : tells (row ∷ rest) ≡ tells rest = rw counts refl in
    passed_over tells rows i row _ c.hold-item.is c.loop-hold-test.true passes
    c.loop-hold.invariant
