-- The index of a network, as lists.
use Rattle.std.specs.Prelude.{◌≡◌, ◌≤◌, ℕ, List, length, map, vec_capacity}
use Rattle.clr_net.specs.Grid.{Grid, section_names}
use Rattle.clr_net.specs.Index.{AreStarts, IsAround, ends_in, ways_in}
use Rattle.clr_net.specs.declared.ways.Way.{Way}
use Rattle.clr_net.specs.declared.ways.Ways.{Ways}

-- the ways out of each section
abbrev pub around_of : Ways → ℕ → List Way
around_of ways = ways_in ways.out.items

-- for each of n sections it is known where the ways out of it begin and end
abbrev pub HasStarts : ℕ → Ways → Type 0
HasStarts n ways = AreStarts n ways.out.items ways.starts.items

-- the index is that of a network
pub record IsIndexOf (g : Grid) (ways : Ways) : Type 0 where
  pub ends : ways.ends.items ≡ map (ends_in (section_names g.sections)) g.points
  pub starts : HasStarts (length g.sections) ways
  pub around : IsAround ways.ends.items (length g.points) (around_of ways)

-- the index has room for that of any network
pub record HasRoom (ways : Ways) : Type 0 where
  pub ends : 10000 ≤ vec_capacity ways.ends
  pub out : 20000 ≤ vec_capacity ways.out
  pub starts : 5001 ≤ vec_capacity ways.starts
