use Rattle.std.proofs.Common.{◌≡◌, ◌∙◌, ◌&&◌, ◌||◌, not, ap, filter, List, subst, sym}
use Rattle.std.specs.List.{list_any}
use Rattle.clr_net.specs.Fence.{touches}
use Rattle.clr_net.specs.Grid.{Grid, section_names}
use Rattle.clr_net.specs.Name.{same_name}
use Rattle.clr_net.specs.Names.{has_name}
use Rattle.clr_net.specs.declared.point.PointRow.{PointRow}
use Rattle.clr_net.specs.declared.section.SectionRow.{SectionRow}
use Rattle.clr_rules.specs.Edits.{fit}
use Rattle.clr_rules.specs.Register.{Register}
use Rattle.clr_rules.specs.declared.change.Edit.{Edit}
use Rattle.clr_update.specs.Update.{is_filed, joined, kept, staying}
use Rattle.clr_changes.specs.Growing.{added, grown}
use Rattle.clr_changes.specs.Outcome.{IsMadeOf}
use Rattle.clr_changes.specs.Shown.{as_update}
use Rattle.clr_changes.proofs.Grown.{made_is_after}
use Rattle.clr_changes.proofs.outcome.renewal_of.Goals as goal

pub returns : goal.returns
returns g c =
    let R = c.args.book.now.register in
    let u = as_update c.args.update in
    let net = c.args.update.network in
    let stays : c.in_ok-points.points.items ≡ staying R u =
    c.in_ok-points.ensures ∙ ap (filter (λ (p : PointRow). not (is_filed u p.name || has_name u.without p.name))) c.requires in
    let given : c.sections.result.now ≡ Grid.sections (Register.net R) = c.sections.ensures.rows ∙ ap (λ (g : Grid). g.sections) c.network.ensures.register in
    let passed : c.deref.result.now ≡ staying R u = c.deref.ensures.value ∙ stays in
    let joins : c.in_ok-sections.sections.items ≡ joined R u =
    c.in_ok-sections.ensures
    ∙ (λ i. filter (λ (row : SectionRow). not (has_name (section_names (Grid.sections net)) row.name) && list_any (touches (same_name row.name)) (passed i)) (given i)) in
    let sections : c.deref-2.result.now ≡ joined R u = c.deref-2.ensures.value ∙ joins in
    let points : c.deref-3.result.now ≡ staying R u = c.deref-3.ensures.value ∙ stays in
    let edits : added c.deref-2.result.now c.deref-3.result.now ≡ kept R u = λ i. added (sections i) (points i) in
    let more = c.in-Some.ensures.some in (
      ap (fit net) (sym edits) ∙ more.0,
      made_is_after R u c.in_ok-after.after
          (subst (λ (g : Grid). IsMadeOf R g u.staff c.in_ok-after.after) (more.1 ∙ ap (λ (e : List Edit). grown e net) edits) c.in_ok-after.ensures),
    )
