-- The names that most proofs take: the rows of a network, their names, and the fence.
pub use Rattle.std.specs.List.{list_all, list_any}
pub use Rattle.clr_net.specs.declared.point.PointRow.{PointRow}
pub use Rattle.clr_net.specs.declared.point.Position.{Position}
pub use Rattle.clr_net.specs.declared.section.SectionRow.{SectionRow}
pub use Rattle.clr_net.specs.Fence.{FenceRows, fence_of, touches}
unfoldable pub use Rattle.clr_net.specs.Fence.{in_fence, reaches}
pub use Rattle.clr_net.specs.Grid.{Grid, IsNetwork, has_ends, point_names, section_names, unplaced}
pub use Rattle.clr_net.specs.Name.{name_cmp, same_name}
pub use Rattle.clr_net.specs.Names.{has_name}
