-- Where a fence is in a network.
use Rattle.std.specs.Prelude.{◌≡◌, ℕ, List, filter, filter_map, slice_get}
use Rattle.clr_net.specs.Fence.{touches}
use Rattle.clr_net.specs.Grid.{Grid}
use Rattle.clr_net.specs.Names.{has_name}
use Rattle.clr_net.specs.declared.fence.RowPlaces.{RowPlaces}

-- the rows at these places are those of the sections of these names, and of the points with an end
-- at one of them
pub record IsFenceAt (g : Grid) (names : List (List ℕ)) (places : RowPlaces) : Type 0 where
  pub sections : filter_map (slice_get g.sections) places.sections.items
      ≡ filter (λ row. has_name names row.name) g.sections
  pub touching : filter_map (slice_get g.points) places.touching.items
      ≡ filter (touches (has_name names)) g.points
