use Rattle.std.proofs.Common.{◌≡◌, ◌∙◌, ◌&&◌, true, false, ap, map, sym}
use Rattle.clr_net.specs.Grid.{Grid}
use Rattle.clr_rules.specs.Edits.{fit}
use Rattle.clr_rules.specs.declared.change.Edit.TheVariants.{AddPoint, AddSection}
use Rattle.clr_changes.specs.Growing.{added, grown}
use Rattle.clr_changes.proofs.Grown.{fit-append, grown-append}
use Rattle.clr_changes.proofs.outcome.grown.Goals as goal

pub returns-then-not-add_sections-clause-none : goal.returns-then-not-add_sections-clause-none
returns-then-not-add_sections-clause-none c =
    let first = map AddSection c.args.sections.now in
    let rest = map AddPoint c.args.points.now in
    fit-append first rest c.args.network
    ∙ ap (λ b. b && fit (grown first c.args.network) rest) (sym c.add_sections.ensures.fits ∙ c.if-not-add_sections.true)

pub returns-then-not-add_points-clause-none : goal.returns-then-not-add_points-clause-none
returns-then-not-add_points-clause-none c =
    let first = map AddSection c.args.sections.now in
    let rest = map AddPoint c.args.points.now in
    let now = c.add_sections.ensures.grown c.if-not-add_sections.false in
    fit-append first rest c.args.network
    ∙ ap (λ b. b && fit (grown first c.args.network) rest) (sym c.add_sections.ensures.fits ∙ c.if-not-add_sections.false)
    ∙ ap (λ (g : Grid). fit g rest) (sym now) ∙ sym c.add_points.ensures.fits ∙ c.if-not-add_points.true

pub returns-clause-some : goal.returns-clause-some
returns-clause-some c =
    let first = map AddSection c.args.sections.now in
    let rest = map AddPoint c.args.points.now in
    let now = c.add_sections.ensures.grown c.if-not-add_sections.false in
    let fits : fit c.args.network (added c.args.sections.now c.args.points.now) ≡ true =
    fit-append first rest c.args.network
    ∙ ap (λ b. b && fit (grown first c.args.network) rest) (sym c.add_sections.ensures.fits ∙ c.if-not-add_sections.false)
    ∙ ap (λ (g : Grid). fit g rest) (sym now) ∙ sym c.add_points.ensures.fits ∙ c.if-not-add_points.false in
    (fits, c.add_points.ensures.grown c.if-not-add_points.false ∙ ap (grown rest) now ∙ sym (grown-append first rest c.args.network))
