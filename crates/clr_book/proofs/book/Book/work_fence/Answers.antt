use Rattle.std.proofs.Common.{◌≡◌, ◌∙◌, ap, sym, subst, List, ℕ}
use Rattle.std.specs.Prelude.{slice_get}
use Rattle.std.specs.List.{filter_map}
use Rattle.std.specs.List.Sorted.{IsStrictlySortedBy}
use Rattle.clr_answer.proofs.SortedRows.{rising-filter}
use Rattle.clr_net.specs.Fence.{FenceRows, fence_of, in_fence}
use Rattle.clr_net.specs.Grid.{Grid, IsNetwork, section_names}
use Rattle.clr_net.specs.Name.{name_cmp}
use Rattle.clr_net.specs.declared.section.SectionRow.{SectionRow}
use Rattle.clr_book.specs.Book.{Shelved}
use Rattle.clr_book.specs.FencePlaces.{IsFenceAt}
use Rattle.clr_book.proofs.FenceNames.{named_sections, named_touching}
use Rattle.clr_book.proofs.NearFacts.{fence_unplaced}
use Rattle.clr_book.proofs.book.Book.work_fence.Goals as goal

pub returns-clause-sections : goal.returns-clause-sections
returns-clause-sections g c =
    let N = c.self.inside.network in
    rw c.in-Some.is
    (c.in_ok-sections.ensures ∙ (λ i. section_names (filter_map (slice_get (c.sections.ensures.rows i)) (c.deref.ensures.value i)))
    ∙ ap section_names (c.in_ok-places.ensures.sections ∙ fence_unplaced N c.in-Some.work c.args.cut.now)
    ∙ ap (λ (v : Shelved). section_names (FenceRows.sections (fence_of v.register.net c.in-Some.work c.args.cut.now))) c.self.view_is)

pub returns-clause-places : goal.returns-clause-places
returns-clause-places g c =
    let N = c.self.inside.network in
    let names : c.in_ok-sections.sections.items ≡ section_names (FenceRows.sections (fence_of N c.in-Some.work c.args.cut.now)) =
    c.in_ok-sections.ensures ∙ (λ i. section_names (filter_map (slice_get (c.sections.ensures.rows i)) (c.deref.ensures.value i)))
    ∙ ap section_names c.in_ok-places.ensures.sections in
    let net : IsNetwork N = c.sections.ensures.network in
    let there : IsFenceAt N (section_names (FenceRows.sections (fence_of N c.in-Some.work c.args.cut.now))) c.in_ok-places.places = record {
      sections = c.in_ok-places.ensures.sections ∙ named_sections N net c.in-Some.work c.args.cut.now;
      touching = c.in_ok-places.ensures.touching ∙ named_touching N net c.in-Some.work c.args.cut.now;
    } in
    subst (λ (v : Shelved). IsFenceAt v.network c.in_ok-sections.sections.items c.in_ok-places.places) c.self.view_is
    (subst (λ (names : List (List ℕ)). IsFenceAt N names c.in_ok-places.places) (sym names) there)

pub returns-clause-rising : goal.returns-clause-rising
returns-clause-rising g c =
    let N = c.self.inside.network in
    let names : c.in_ok-sections.sections.items ≡ section_names (FenceRows.sections (fence_of N c.in-Some.work c.args.cut.now)) =
    c.in_ok-sections.ensures ∙ (λ i. section_names (filter_map (slice_get (c.sections.ensures.rows i)) (c.deref.ensures.value i)))
    ∙ ap section_names c.in_ok-places.ensures.sections in
    subst (λ (names : List (List ℕ)). IsStrictlySortedBy name_cmp names) (sym names)
    (rising-filter name_cmp (λ (row : SectionRow). row.name) (λ row. in_fence N c.in-Some.work c.args.cut.now row.name) N.sections c.sections.ensures.network.sections_rise)
