use Rattle.std.proofs.Common.{◌≡◌, ◌∙◌, ◌||◌, ℕ, ap, map, Bor, List, slice_get, filter_map}
use Rattle.clr_net.specs.Prelude.{Grid, IsNetwork, FenceRows, fence_of, in_fence, name_cmp, PointRow, SectionRow}
use Rattle.clr_net.proofs.ByWalks.{fence_by_walks}
use Rattle.clr_net.proofs.ListFacts.{rising-filter}
use Rattle.clr_net.proofs.network.Network.fence.Goals as goal

-- the rows at the places that were found are those of the fence
picked : {X : Type 0} (rows all : List X) (places given : List ℕ) (found fence : List X) → found ≡ filter_map (slice_get rows) places
    → rows ≡ all → places ≡ given → filter_map (slice_get all) given ≡ fence → found ≡ fence
picked rows all places given found fence is rows_are places_are fence_is = is ∙ (λ i. filter_map (slice_get (rows_are i)) (places_are i)) ∙ fence_is

pub of_rows-requires-clause-sections_rise : goal.of_rows-requires-clause-sections_rise
of_rows-requires-clause-sections_rise c =
    let g = c.args.self.now in
    let net : IsNetwork g = rw (← c.self.view_is) c.self.invariant.0 in
    let places = c.in_ok-places.places.sections.items in
    rw (picked c.deref.result.now c.self.inside.sections.items c.deref-2.result.now places (map (λ (row : Bor SectionRow). row.now) c.in_ok-sections.sections.items)
    (FenceRows.sections (fence_of g c.args.work.now c.args.cut.now)) c.in_ok-sections.ensures c.deref.ensures.value c.deref-2.ensures.value
    (ap (λ (g : Grid). filter_map (slice_get g.sections) places) c.self.view_is ∙ c.in_ok-places.ensures.sections))
    (rising-filter name_cmp (λ (row : SectionRow). row.name) (λ row. in_fence g c.args.work.now c.args.cut.now row.name) g.sections net.sections_rise)

pub of_rows-requires-clause-points_rise : goal.of_rows-requires-clause-points_rise
of_rows-requires-clause-points_rise c =
    let g = c.args.self.now in
    let net : IsNetwork g = rw (← c.self.view_is) c.self.invariant.0 in
    let places = c.in_ok-places.places.touching.items in
    rw (picked c.deref-3.result.now c.self.inside.points.items c.deref-4.result.now places (map (λ (row : Bor PointRow). row.now) c.in_ok-touching.touching.items)
    (FenceRows.touching (fence_of g c.args.work.now c.args.cut.now)) c.in_ok-touching.ensures c.deref-3.ensures.value c.deref-4.ensures.value
    (ap (λ (g : Grid). filter_map (slice_get g.points) places) c.self.view_is ∙ c.in_ok-places.ensures.touching))
    (rising-filter name_cmp (λ (row : PointRow). row.name)
    (λ row. in_fence g c.args.work.now c.args.cut.now row.from_end || in_fence g c.args.work.now c.args.cut.now row.to_end) g.points net.points_rise)

pub returns-clause-rows : goal.returns-clause-rows
returns-clause-rows c =
    let g = c.args.self.now in
    let fence = fence_of g c.args.work.now c.args.cut.now in
    let places = c.in_ok-places.places in
    let sections : map (λ (row : Bor SectionRow). row.now) c.in_ok-sections.sections.items ≡ FenceRows.sections fence =
    picked c.deref.result.now c.self.inside.sections.items c.deref-2.result.now places.sections.items (map (λ (row : Bor SectionRow). row.now) c.in_ok-sections.sections.items)
    (FenceRows.sections fence) c.in_ok-sections.ensures c.deref.ensures.value c.deref-2.ensures.value
    (ap (λ (g : Grid). filter_map (slice_get g.sections) places.sections.items) c.self.view_is ∙ c.in_ok-places.ensures.sections) in
    let touching : map (λ (row : Bor PointRow). row.now) c.in_ok-touching.touching.items ≡ FenceRows.touching fence =
    picked c.deref-3.result.now c.self.inside.points.items c.deref-4.result.now places.touching.items (map (λ (row : Bor PointRow). row.now) c.in_ok-touching.touching.items)
    (FenceRows.touching fence) c.in_ok-touching.ensures c.deref-3.ensures.value c.deref-4.ensures.value
    (ap (λ (g : Grid). filter_map (slice_get g.points) places.touching.items) c.self.view_is ∙ c.in_ok-places.ensures.touching) in
    c.of_rows.ensures ∙ (λ i. record { sections = sections i; touching = touching i })

pub returns-clause-walks : goal.returns-clause-walks
returns-clause-walks c =
    let net : IsNetwork c.args.self.now = rw (← c.self.view_is) c.self.invariant.0 in
    fence_by_walks c.args.self.now net c.args.work.now c.args.cut.now c.of_rows.result (returns-clause-rows c)
