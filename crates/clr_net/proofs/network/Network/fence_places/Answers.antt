use Rattle.std.proofs.Common.{◌≡◌, ◌∙◌, ap, length, slice_get, filter_map}
use Rattle.clr_net.specs.Prelude.{Grid, FenceRows, fence_of}
use Rattle.clr_net.proofs.FencePlaces.{picked_fence}
use Rattle.clr_net.proofs.network.Network.fence_places.Goals as goal

-- the rows at the places that were found are the fence
picked : (c : goal.In_ok-touching) → record {
  sections = filter_map (slice_get c.self.inside.sections.items) c.in_ok-sections.sections.items;
  touching = filter_map (slice_get c.self.inside.points.items) c.in_ok-touching.touching.items;
} ≡ fence_of (record { sections = c.self.inside.sections.items; points = c.self.inside.points.items }) c.args.work.now c.args.cut.now
picked c =
    let g : Grid = record { sections = c.self.inside.sections.items; points = c.self.inside.points.items } in
    let net = c.self.invariant.0 in
    let index = c.self.invariant.1 in
    picked_fence g net c.self.inside.ways index c.args.work.now c.args.cut.now c.in_ok-sections.sections.items c.in_ok-touching.touching.items
    c.in_ok-sections.ensures.rising (rw (c.deref.ensures.value, c.deref-2.ensures.value) at c.in_ok-sections.ensures.fence) (rw c.deref.ensures.value at c.in_ok-sections.ensures.inside)
    c.in_ok-touching.ensures.rising (rw c.deref-3.ensures.value at c.in_ok-touching.ensures.same)

pub places_beside-requires : goal.places_beside-requires
places_beside-requires c =
    (length c.self.inside.sections.items, c.self.invariant.1.starts, rw (c.deref.ensures.value, ← c.deref-3.ensures.value) at c.in_ok-sections.ensures.inside)

pub returns-clause-sections : goal.returns-clause-sections
returns-clause-sections c = rw (← c.self.view_is) (ap FenceRows.sections (picked c))

pub returns-clause-touching : goal.returns-clause-touching
returns-clause-touching c = rw (← c.self.view_is) (ap FenceRows.touching (picked c))
