use Rattle.std.proofs.Common.{◌≡◌, ◌∙◌, ◌+◌, ◌++◌, [], ◌∷◌, true, false, Global}
use Rattle.std.proofs.Common.{List, Vec, ap, drop, refl, sym, filter}
use Rattle.std.specs.Ordering.{is_eq}
use Rattle.clr_rules.specs.Holds.{same_kind}
use Rattle.clr_rules.specs.declared.hold.Hold.{Hold}
use Rattle.clr_answer.proofs.RowLoops.{kept_more, passed_over}
use Rattle.clr_answer.proofs.view.with_kind.Goals as goal
use Rattle.clr_answer.proofs.view.with_kind.Goals.{then-is_eq+in_ok-push, else-is_eq}

pub loop-hold-preserved : goal.loop-hold-preserved
loop-hold-preserved c =
    let gives = λ (rows : List (Hold)).
    filter (λ h. same_kind c.args.kind h.kind) rows in
    let rows = c.args.holds.now in
    let i = c.loop-hold.hold-index in
    let row = c.hold-item.result in
    let rest = drop (i + 1) rows in
    let kept = c.loop-hold.all.items in
    elim c.if-is_eq.branch [
      | then-is_eq+in_ok-push w ↦
          let counts : same_kind c.args.kind row.kind ≡ true =
          sym (ap is_eq c.compare_own.ensures) ∙ sym c.is_eq.ensures ∙ w.if-is_eq.true in
          let takes : gives (row ∷ rest) ≡ (row ∷ []) ++ gives rest = rw counts refl in
          rw (ap (λ (v : Vec Hold Global). v.items) w.all-is ∙ w.in_ok-push.ensures.items)
          (kept_more gives kept (row ∷ []) rows i row _ c.hold-item.is
          c.loop-hold-test.true takes c.loop-hold.invariant)
      | else-is_eq w ↦
          let counts : same_kind c.args.kind row.kind ≡ false =
          sym (ap is_eq c.compare_own.ensures) ∙ sym c.is_eq.ensures ∙ w.if-is_eq.false in
          let passes : gives (row ∷ rest) ≡ gives rest = rw counts refl in
          rw (ap (λ (v : Vec Hold Global). v.items) w.all-is)
          (passed_over (λ left. kept ++ gives left) rows i row _ c.hold-item.is
          c.loop-hold-test.true (ap (λ more. kept ++ more) passes) c.loop-hold.invariant)
    ]
