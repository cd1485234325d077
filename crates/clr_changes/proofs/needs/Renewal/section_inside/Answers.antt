use Rattle.std.proofs.Common.{◌∙◌, ap, filter, List, ℕ}
use Rattle.clr_net.specs.Fence.{fence_has}
use Rattle.clr_net.specs.Grid.{section_names}
use Rattle.clr_net.specs.Names.{has_name}
use Rattle.clr_net.specs.declared.section.SectionRow.{SectionRow}
use Rattle.clr_changes.specs.Needs.{Renewal}
use Rattle.clr_changes.specs.Touched.{first_of}
use Rattle.clr_changes.proofs.needs.Renewal.section_inside.Goals as goal

pub returns : goal.returns
returns g c =
    let V = c.args.self.now in
    c.first_inside.ensures
    ∙ ap (λ (rows : List SectionRow). first_of (section_names (filter (λ row. fence_has c.in_ok-fence.fence row.name) rows)))
    (c.deref.ensures.value ∙ ap (λ (V : Renewal). V.changes.sections_go) c.self.view_is)
    ∙ ap (λ (names : List (List ℕ)). first_of (section_names (filter (λ row. has_name names row.name) V.changes.sections_go))) c.in_ok-fence.ensures
