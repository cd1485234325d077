use Rattle.std.proofs.Common.{◌≡◌, ◌∙◌, IsPermutation, List, ap, is_some, map, subst, sym}
use Rattle.clr_net.specs.Grid.{Grid, unplaced}
use Rattle.clr_net.specs.Network.{first_fault}
use Rattle.clr_net.specs.declared.point.PointRow.{PointRow}
use Rattle.clr_net.specs.declared.section.SectionRow.{SectionRow}
use Rattle.clr_update.proofs.Fences.{points_rise, sections_rise}
use Rattle.clr_update.proofs.Passed.{ordered_is}
use Rattle.clr_update.specs.Delta.{passed, points_left, sections_left}
use Rattle.clr_update.specs.Rows.{same_point, same_section}
use Rattle.clr_update.specs.Shown.{as_changes}
use Rattle.clr_changes.proofs.made.network_of.Goals as goal

pub returns-in-Ok : goal.returns-in-Ok
returns-in-Ok g c =
    let R = c.args.book.now.register in
    let of = as_changes c.args.changes.now in
    let (none, is) = c.in-Ok.ensures in
    let network = c.in-Ok.network in
    let was = c.sections-was.ensures.rows ∙ ap Grid.sections c.network.ensures.register in
    let sections : c.in_ok-sections.sections.items ≡ sections_left R of = c.in_ok-sections.ensures
    ∙ (λ i. passed same_section (c.deref.ensures.value i) (c.deref-2.ensures.value i) (was i)) in
    let were = c.deref-5.ensures.value ∙ c.in_ok-was.ensures.rows ∙ ap (map unplaced) c.points.ensures.rows ∙ ap Grid.points c.network-2.ensures.register in
    let points : c.in_ok-points.points.items ≡ points_left R of = c.in_ok-points.ensures
    ∙ (λ i. passed same_point (c.deref-3.ensures.value i) (c.deref-4.ensures.value i) (were i)) in
    let own_sections = ordered_is (λ (row : SectionRow). row.name) (sections_left R of) network.sections
    (subst (λ (rows : List SectionRow). IsPermutation rows network.sections) sections is.all_sections) (sections_rise network is.network) in
    let own_points = ordered_is (λ (p : PointRow). p.name) (points_left R of) network.points
    (subst (λ (rows : List PointRow). IsPermutation rows network.points) points is.all_points) (points_rise network is.network) in
    ((λ i. is_some (first_fault (sym sections i) (sym points i))) ∙ ap is_some none, λ i. record { sections = sym own_sections i; points = sym own_points i })
