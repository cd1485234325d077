use Rattle.std.proofs.Common.{◌≡◌, ◌∙◌, ◌+◌, ◌++◌, [], ◌∷◌, ◌&&◌, true, false}
use Rattle.std.proofs.Common.{Bor, Global, List, Vec, ap, drop, map, refl, sym}
use Rattle.std.specs.Ordering.{is_eq}
use Rattle.clr_net.specs.declared.name.Name.{Name}
use Rattle.clr_rules.specs.Holds.{places_of, same_kind}
use Rattle.clr_rules.specs.Id.{same_id}
use Rattle.clr_rules.specs.declared.hold.Hold.{Hold}
use Rattle.clr_answer.proofs.RowLoops.{both_hold, first_fails, kept_more, passed_over, second_fails}
use Rattle.clr_answer.proofs.checks.work.places_of.Goals as goal
use Rattle.clr_answer.proofs.checks.work.places_of.Goals.{then-eq+then-is_eq+in_ok-push, else-eq}
use Rattle.clr_answer.proofs.checks.work.places_of.Goals.{else-eq-via-then-eq+else-is_eq}
use Rattle.clr_answer.proofs.checks.work.places_of.Goals.{else-eq-via-else-eq}

pub loop-hold-preserved : goal.loop-hold-preserved
unfolding places_of
loop-hold-preserved c =
    let id = c.args.id in
    let kind = c.args.kind in
    let gives = λ (rows : List (Bor Hold)). places_of (map (λ row. row.now) rows) id kind in
    let rows = c.deref-hold-items.result.now in
    let i = c.loop-hold.hold-index in
    let row = c.hold-item.result in
    let rest = drop (i + 1) rows in
    let kept = c.loop-hold.names.items in
    let own = same_id id row.now.id in
    let alike = same_kind kind row.now.kind in
    elim c.if-eq.branch [
      | then-eq+then-is_eq+in_ok-push w ↦
          let counts : (own && alike) ≡ true =
          both_hold own alike (sym c.eq.ensures ∙ w.if-eq.true)
          (sym (ap is_eq w.compare_own.ensures) ∙ sym w.is_eq.ensures ∙ w.if-is_eq.true) in
          let takes : gives (row ∷ rest) ≡ (row.now.place ∷ []) ++ gives rest = rw counts refl in
          rw (ap (λ (v : Vec Name Global). v.items) w.names-is ∙ w.in_ok-push.ensures.items)
          (kept_more gives kept (row.now.place ∷ []) rows i row _ c.hold-item.is
          c.loop-hold-test.true takes c.loop-hold.invariant)
      | else-eq w ↦
          let counts : (own && alike) ≡ false = elim w.else-eq.branch [
            | else-eq-via-then-eq+else-is_eq w' ↦
                second_fails own alike (sym c.eq.ensures ∙ w'.if-eq.true)
                (sym (ap is_eq w'.compare_own.ensures) ∙ sym w'.is_eq.ensures ∙ w'.if-is_eq.false)
            | else-eq-via-else-eq w' ↦ first_fails own alike (sym c.eq.ensures ∙ w'.if-eq.false)
          ] in
          let passes : gives (row ∷ rest) ≡ gives rest = rw counts refl in
          rw (ap (λ (v : Vec Name Global). v.items) w.names-is)
          (passed_over (λ left. kept ++ gives left) rows i row _ c.hold-item.is
          c.loop-hold-test.true (ap (λ more. kept ++ more) passes) c.loop-hold.invariant)
    ]
