use Rattle.std.proofs.Common.{◌≡◌, ◌∙◌, ◌+◌, ◌++◌, [], ◌∷◌, true, false, Bor, Global}
use Rattle.std.proofs.Common.{List, Vec, ap, drop, refl, sym, map, filter}
use Rattle.std.proofs.lemmas.List.{map-append}
use Rattle.clr_net.specs.Names.{has_name}
use Rattle.clr_net.specs.declared.section.SectionRow.{SectionRow}
use Rattle.clr_answer.proofs.RowLoops.{kept_more, passed_over}
use Rattle.clr_answer.proofs.checks.orders.fence_sections.Goals as goal
use Rattle.clr_answer.proofs.checks.orders.fence_sections.Goals.{then-is_among_from+in_ok-push}
use Rattle.clr_answer.proofs.checks.orders.fence_sections.Goals.{else-is_among_from}

pub loop-row-preserved : goal.loop-row-preserved
loop-row-preserved c =
    let gives = λ (rows : List (Bor SectionRow)).
    filter (λ row. has_name c.args.fence.now row.name) (map (λ row. row.now) rows) in
    let rows = c.args.rows.now in
    let i = c.loop-row.row-index in
    let row = c.row-item.result in
    let rest = drop (i + 1) rows in
    let shows = λ (row : Bor SectionRow). row.now in
    let held = c.loop-row.kept.items in
    let kept = map shows held in
    let items = λ (v : Vec (Bor SectionRow) Global). v.items in
    elim c.if-is_among_from.branch [
      | then-is_among_from+in_ok-push w ↦
          let counts : has_name c.args.fence.now row.now.name ≡ true =
          sym c.is_among_from.ensures ∙ w.if-is_among_from.true in
          let takes : gives (row ∷ rest) ≡ (row.now ∷ []) ++ gives rest = rw counts refl in
          rw (
            ap items w.kept-is ∙ w.in_ok-push.ensures.items,
            map-append shows held (row ∷ []),
          )
          (kept_more gives kept (row.now ∷ []) rows i row _ c.row-item.is
          c.loop-row-test.true takes c.loop-row.invariant)
      | else-is_among_from w ↦
          let counts : has_name c.args.fence.now row.now.name ≡ false =
          sym c.is_among_from.ensures ∙ w.if-is_among_from.false in
          let passes : gives (row ∷ rest) ≡ gives rest = rw counts refl in
          rw (ap items w.kept-is)
          (passed_over (λ left. kept ++ gives left) rows i row _ c.row-item.is
          c.loop-row-test.true (ap (λ more. kept ++ more) passes) c.loop-row.invariant)
    ]
