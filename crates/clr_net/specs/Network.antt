-- The faults of rows that are to be a network, and what a build of them answers.
use Rattle.std.specs.Prelude.{◌≡◌, ◌⊎◌, ℕ, ◌+◌, not, nat_lt, ◌==◌, ◌||◌, if◌then◌else◌, List}
use Rattle.std.specs.Prelude.{length, position, Option, Some, None, Result, Ok, Err, IsPermutation}
use Rattle.clr_net.specs.Names.{repeat_place}
use Rattle.clr_net.specs.Prelude.{SectionRow, PointRow}
use Rattle.clr_net.specs.declared.net_fault.NetFault.{NetFault}
use Rattle.clr_net.specs.declared.net_fault.NetFault.TheVariants.{NoSections, TooLarge}
use Rattle.clr_net.specs.declared.net_fault.NetFault.TheVariants.{SectionTwice, PointTwice}
use Rattle.clr_net.specs.declared.net_fault.NetFault.TheVariants.{UnknownEnd, SameEnds, NoMemory}
use Rattle.clr_net.specs.Grid.{Grid, IsNetwork, section_names, point_names, has_ends}
use Rattle.clr_net.specs.Grid.{has_one_section}

-- the fault of a table that is too small or too large, otherwise the rest
abbrev pub size_fault : List SectionRow → List PointRow → Option NetFault → Option NetFault
size_fault sections points rest =
    if length sections == 0 then Some NoSections
    else if nat_lt 5000 (length sections) || nat_lt 10000 (length points) then Some TooLarge
    else rest

-- a fault of the row at a place, which is named by its number from 1, otherwise the rest
abbrev pub row_fault : (ℕ → NetFault) → Option ℕ → Option NetFault → Option NetFault
row_fault fault None rest = rest
row_fault fault (Some place) rest = Some (fault (place + 1))

-- a section that comes twice, then a point that comes twice, otherwise the rest
abbrev pub twice_fault : List SectionRow → List PointRow → Option NetFault → Option NetFault
twice_fault sections points rest =
    row_fault SectionTwice (repeat_place (section_names sections))
    (row_fault PointTwice (repeat_place (point_names points)) rest)

-- a point with an end that is none of the sections, then one whose ends are one section, then the
-- rest
abbrev pub end_fault : List (List ℕ) → List PointRow → Option NetFault → Option NetFault
end_fault sections points rest =
    row_fault UnknownEnd (position (λ p. not (has_ends sections p)) points)
    (row_fault SameEnds (position has_one_section points) rest)

-- the first fault of rows that are to be a network; of the rows that have it, the least
abbrev pub first_fault : List SectionRow → List PointRow → Option NetFault
first_fault sections points =
    size_fault sections points
    (twice_fault sections points (end_fault (section_names sections) points None))

-- what a check of one stage answers: nothing, where the first fault is that of the rest; or want
-- of memory, or the first fault
abbrev pub Passes : (Option NetFault → Option NetFault) → Result (Unit {0}) NetFault → Type 0
Passes stage (Ok _) = (rest : Option NetFault) → stage rest ≡ rest
Passes stage (Err fault) = (fault ≡ NoMemory) ⊎ ((rest : Option NetFault) → stage rest ≡ Some fault)

-- the network has these rows, in the order of their names
pub record IsGridOf (sections : List SectionRow) (points : List PointRow) (g : Grid) : Type 0 where
  pub all_sections : IsPermutation sections g.sections
  pub all_points : IsPermutation points g.points
  pub network : IsNetwork g

-- what a build of rows answers: their network where they have no fault, or want of memory or
-- their first fault
abbrev pub Builds : List SectionRow → List PointRow → Result Grid NetFault → Type 0
Builds sections points (Ok g) = (first_fault sections points ≡ None) × IsGridOf sections points g
Builds sections points (Err fault) = (fault ≡ NoMemory) ⊎ (first_fault sections points ≡ Some fault)
