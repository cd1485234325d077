use Rattle.std.proofs.Common.{◌≡◌, ◌∙◌, ◌+◌, ◌∷◌, true, false, List, ap, drop, map, refl, sym}
use Rattle.std.proofs.lemmas.List.{drop_all}
use Rattle.clr_net.specs.declared.section.SectionRow.{SectionRow}
use Rattle.clr_answer.proofs.RowLoops.{drop_step}
use Rattle.clr_rules.specs.Edits.{fit, fits_edit}
use Rattle.clr_rules.specs.declared.change.Edit.TheVariants.{AddSection}
use Rattle.clr_changes.specs.Growing.{grown}
use Rattle.clr_changes.proofs.Grown.{none_more, not_more, one_more}
use Rattle.clr_changes.proofs.growing.add_sections.Goals as goal

pub loop-row-preserved : goal.loop-row-preserved
loop-row-preserved c =
    let rows = c.args.rows.now in
    let i = c.loop-row.row-index in
    let row = c.row-item.result in
    let g = c.loop-row.network in
    let step : drop i rows ≡ row ∷ drop (i + 1) rows = drop_step rows rows i row refl c.row-item.is c.loop-row-test.true in
    let fits : fits_edit g (AddSection row) ≡ true = sym c.fits_section.ensures ∙ c.if-not-fits_section.false in
    let more = one_more (AddSection row) (map AddSection (drop (i + 1) rows)) g c.add_section.new.self fits c.add_section.ensures in (
      more.0 ∙ ap (λ (left : List SectionRow). fit g (map AddSection left)) (sym step) ∙ c.loop-row.invariant.0,
      more.1 ∙ ap (λ (left : List SectionRow). grown (map AddSection left) g) (sym step) ∙ c.loop-row.invariant.1,
    )

pub returns-then-not-fits_section-clause-fits : goal.returns-then-not-fits_section-clause-fits
returns-then-not-fits_section-clause-fits c =
    let rows = c.args.rows.now in
    let i = c.loop-row.row-index in
    let row = c.row-item.result in
    let g = c.loop-row.network in
    let step : drop i rows ≡ row ∷ drop (i + 1) rows = drop_step rows rows i row refl c.row-item.is c.loop-row-test.true in
    sym (not_more (AddSection row) (map AddSection (drop (i + 1) rows)) g (sym c.fits_section.ensures ∙ c.if-not-fits_section.true))
    ∙ ap (λ (left : List SectionRow). fit g (map AddSection left)) (sym step) ∙ c.loop-row.invariant.0

pub returns-clause-fits : goal.returns-clause-fits
returns-clause-fits c =
    let none = drop_all c.loop-row.row-index c.args.rows.now c.loop-row-test.false in
    sym (none_more c.loop-row.network).0 ∙ ap (λ (left : List SectionRow). fit c.loop-row.network (map AddSection left)) (sym none) ∙ c.loop-row.invariant.0

pub returns-clause-grown : goal.returns-clause-grown
returns-clause-grown c is =
    let none = drop_all c.loop-row.row-index c.args.rows.now c.loop-row-test.false in
    sym (none_more c.loop-row.network).1 ∙ ap (λ (left : List SectionRow). grown (map AddSection left) c.loop-row.network) (sym none) ∙ c.loop-row.invariant.1
