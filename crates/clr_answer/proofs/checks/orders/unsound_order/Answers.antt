use Rattle.std.proofs.Common.{◌≡◌, ◌∙◌, ℕ, sym, ap, map, filter, subst, Bor, List}
use Rattle.std.specs.List.Sorted.{IsStrictlySortedBy}
use Rattle.clr_net.specs.Fence.{FenceRows, touches}
use Rattle.clr_net.specs.Grid.{point_names, section_names}
use Rattle.clr_net.specs.Name.{name_cmp}
use Rattle.clr_net.specs.Names.{has_name}
use Rattle.clr_net.specs.declared.point.PointRow.{PointRow}
use Rattle.clr_net.specs.declared.section.SectionRow.{SectionRow}
use Rattle.clr_order.specs.Isolating.{isolating_fault}
use Rattle.clr_order.specs.Step.{task}
use Rattle.clr_rules.specs.Near.{Near}
use Rattle.clr_rules.specs.Refusals.{order_refusal}
use Rattle.clr_answer.specs.Orders.{refusal_of}
use Rattle.clr_answer.proofs.OrderPositions.{order_told, refusal_of_answer, unplaced_shown}
use Rattle.clr_answer.proofs.SortedRows.{rising-filter}
use Rattle.clr_answer.proofs.checks.orders.unsound_order.Goals as goal

pub of_rows-fence-requires-clause-sections_rise : goal.of_rows-fence-requires-clause-sections_rise
of_rows-fence-requires-clause-sections_rise c =
    let inside = has_name c.deref-2.result.now in
    let rows = map (λ (row : Bor SectionRow). row.now) c.deref.result.now in
    rw c.in_ok-sections.ensures
    (rising-filter name_cmp (λ (row : SectionRow). row.name) (λ row. inside row.name) rows
    (subst (λ (items : List (Bor SectionRow)). IsStrictlySortedBy name_cmp (section_names (map (λ row. row.now) items))) (sym c.deref.ensures.value) c.near.invariant.1))

pub of_rows-fence-requires-clause-points_rise : goal.of_rows-fence-requires-clause-points_rise
of_rows-fence-requires-clause-points_rise c =
    let inside = has_name c.deref-4.result.now in
    let rows = map (λ (row : Bor PointRow). row.now) c.deref-3.result.now in
    rw c.in_ok-touching.ensures
    (rising-filter name_cmp (λ (row : PointRow). row.name) (touches inside) rows
    (subst (λ (items : List (Bor PointRow)). IsStrictlySortedBy name_cmp (point_names (map (λ row. row.now) items))) (sym c.deref-3.ensures.value) c.near.invariant.2))

pub returns : goal.returns
returns c =
    let points = c.args.points.now in
    let tasks = map task c.args.steps.now in
    let known = c.args.near.now.known.fence in
    let g = c.args.near.now.rows.net in
    let S = map (λ (row : Bor SectionRow). row.now) c.near.inside.sections.items in
    let T = map (λ (row : Bor PointRow). row.now) c.near.inside.points.items in
    let names : c.near.inside.fence.items ≡ known = ap (λ (n : Near). n.known.fence) c.near.view_is in
    let sections : FenceRows.sections c.of_rows-fence.result ≡ filter (λ row. has_name known row.name) S =
    ap FenceRows.sections c.of_rows-fence.ensures ∙ c.in_ok-sections.ensures
    ∙ ap (λ (all : List (List ℕ)). filter (λ row. has_name all row.name) (map (λ row. row.now) c.deref.result.now)) (c.deref-2.ensures.value ∙ names)
    ∙ ap (λ (items : List (Bor SectionRow)). filter (λ row. has_name known row.name) (map (λ row. row.now) items)) c.deref.ensures.value in
    let touching : FenceRows.touching c.of_rows-fence.result ≡ filter (touches (has_name known)) T =
    ap FenceRows.touching c.of_rows-fence.ensures ∙ c.in_ok-touching.ensures
    ∙ ap (λ (all : List (List ℕ)). filter (touches (has_name all)) (map (λ row. row.now) c.deref-3.result.now)) (c.deref-4.ensures.value ∙ names)
    ∙ ap (λ (items : List (Bor PointRow)). filter (touches (has_name known)) (map (λ row. row.now) items)) c.deref-3.ensures.value in
    c.refusal_of.ensures ∙ ap refusal_of c.check_isolating.ensures.first ∙ refusal_of_answer (isolating_fault c.of_rows-fence.result points tasks)
    ∙ ap order_refusal (order_told S T known c.of_rows-fence.result g points tasks sections touching
    (ap (λ (n : Near). n.rows.net.sections) c.near.view_is)
    (sym (unplaced_shown (λ (row : Bor PointRow). row.now) c.near.inside.points.items) ∙ ap (λ (n : Near). n.rows.net.points) c.near.view_is))

pub fence_sections-requires : goal.fence_sections-requires
fence_sections-requires c = rw c.deref-2.ensures.value c.near.invariant.3

pub touching_points-requires : goal.touching_points-requires
touching_points-requires c = rw c.deref-4.ensures.value c.near.invariant.3
