-- A network as contracts see it: its sections and its points, each list in the order of names.
use Rattle.std.specs.Prelude.{◌≡◌, ◌<◌, ◌≤◌, ℕ, Bool, false, ◌&&◌, IsTrue, List, length, map, All}
use Rattle.std.specs.List.Sorted.{IsStrictlySortedBy}
use Rattle.clr_net.specs.Name.{same_name, name_cmp}
use Rattle.clr_net.specs.Names.{has_name}
use Rattle.clr_net.specs.declared.section.SectionRow.{SectionRow}
use Rattle.clr_net.specs.declared.point.PointRow.{PointRow}
use Rattle.clr_net.specs.declared.point.Position.TheVariants.{Opened}

pub record Grid : Type 0 where
  pub sections : List SectionRow
  pub points : List PointRow

abbrev pub section_names : List SectionRow → List (List ℕ)
section_names sections = map (λ row. row.name) sections

abbrev pub point_names : List PointRow → List (List ℕ)
point_names points = map (λ row. row.name) points

-- a point of the network, without the position that it had when its row was made
abbrev pub unplaced : PointRow → PointRow
unplaced p = record p { position = Opened }

-- whether both ends of a point are among these sections
abbrev pub has_ends : List (List ℕ) → PointRow → Bool
has_ends sections p = has_name sections p.from_end && has_name sections p.to_end

-- whether both ends of a point are one section
abbrev pub has_one_section : PointRow → Bool
has_one_section p = same_name p.from_end p.to_end

-- the rows are a network within the limits: 1 to 5,000 sections, at most 10,000 points, no name
-- twice, and each point joins two different sections
pub record IsNetwork (g : Grid) : Type 0 where
  pub some_section : 0 < length g.sections
  pub sections_fit : length g.sections ≤ 5000
  pub points_fit : length g.points ≤ 10000
  pub sections_rise : IsStrictlySortedBy name_cmp (section_names g.sections)
  pub points_rise : IsStrictlySortedBy name_cmp (point_names g.points)
  pub ends_known : All (λ p. IsTrue (has_ends (section_names g.sections) p)) g.points
  pub ends_differ : All (λ p. has_one_section p ≡ false) g.points
