-- What the definitions of the network and the fence mean, as laws.
use Rattle.std.specs.Prelude.{◌≡◌, ◌↔◌, ℕ, Bool, if◌then◌else◌, IsTrue, List, ◌∷◌, None, filter}
use Rattle.std.specs.Prelude.{map}
use Rattle.clr_net.specs.Prelude.{has_name, Grid, IsNetwork, section_names, unplaced, FenceRows}
use Rattle.clr_net.specs.Prelude.{fence_of, in_fence, touches, SectionRow, PointRow}
use Rattle.clr_net.specs.Network.{IsGridOf, first_fault}
use Rattle.clr_net.specs.Additions.{fits_section, fits_point, with_named, with_section, with_point}
use Rattle.clr_net.specs.Walk.{IsClosed, Walk}

-- a section is in the fence exactly where the work section is known and a walk leads from it over
-- points that are not cut
abbrev pub FenceIsWalks : Type 0
FenceIsWalks = (g : Grid) → IsNetwork g → (work : List ℕ) (cut : List (List ℕ)) (s : List ℕ)
    → IsTrue (in_fence g work cut s) ↔ (IsTrue (has_name (section_names g.sections) work)
    × Walk g.points cut work s)

-- the fence of a known section has it, and no point leaves the fence but those that are cut
abbrev pub FenceIsClosed : Type 0
FenceIsClosed = (g : Grid) → IsNetwork g → (work : List ℕ) (cut : List (List ℕ))
    → (IsTrue (has_name (section_names g.sections) work) → IsTrue (in_fence g work cut work))
    × IsClosed g.points cut (in_fence g work cut)

-- each set of sections that has the work section and that no point leaves but those that are cut,
-- has the whole fence
abbrev pub FenceIsLeast : Type 0
FenceIsLeast = (g : Grid) → IsNetwork g
    → (work : List ℕ) (cut : List (List ℕ)) (inside : List ℕ → Bool) → IsTrue (inside work)
    → IsClosed g.points cut inside
    → (s : List ℕ) → IsTrue (in_fence g work cut s) → IsTrue (inside s)

-- the sections of a set, and the points with an end in it, have the same rows in two networks, the
-- points' positions aside
pub record SameRowsAt (inside : List ℕ → Bool) (g h : Grid) : Type 0 where
  pub sections : filter (λ row. inside row.name) g.sections
      ≡ filter (λ row. inside row.name) h.sections
  pub points : map unplaced (filter (touches inside) g.points)
      ≡ map unplaced (filter (touches inside) h.points)

-- two fences have the same sections, and the same points touch them, their positions aside
pub record SameFence (fence other : FenceRows) : Type 0 where
  pub sections : fence.sections ≡ other.sections
  pub touching : map unplaced fence.touching ≡ map unplaced other.touching

-- LOCALITY: two networks that have the same rows at a fence of the first have the same fence
abbrev pub FencesAreLocal : Type 0
FencesAreLocal =
    (g h : Grid) → IsNetwork g → IsNetwork h → (work : List ℕ) (cut : List (List ℕ))
    → IsTrue (has_name (section_names g.sections) work)
    → SameRowsAt (in_fence g work cut) g h
    → SameFence (fence_of g work cut) (fence_of h work cut)

-- rows of which there is a network have no fault
abbrev pub NetworksHaveNoFault : Type 0
NetworksHaveNoFault = (sections : List SectionRow) (points : List PointRow) (g : Grid)
    → IsGridOf sections points g → first_fault sections points ≡ None

-- a network with a section more is the network of its rows and this one
abbrev pub SectionsAreAdded : Type 0
SectionsAreAdded = (g : Grid) → IsNetwork g → (row : SectionRow) → IsTrue (fits_section g row)
    → IsGridOf (row ∷ g.sections) g.points (with_section row g)

-- a network with a point more is the network of its rows and this one
abbrev pub PointsAreAdded : Type 0
PointsAreAdded = (g : Grid) → IsNetwork g → (p : PointRow) → IsTrue (fits_point g p)
    → IsGridOf g.sections (p ∷ g.points) (with_point p g)

-- the points that touch a fence and a point more, where it touches it too
abbrev pub touching_with : (List ℕ → Bool) → PointRow → List PointRow → List PointRow
touching_with inside p points =
    if touches inside p then with_named (λ other. other.name) p points else points

-- the fence of a work section, cut at these points, has the same sections in two networks, with the
-- same rows; in the second one these points touch it
pub record KeepsFence (g h : Grid) (work : List ℕ) (cut : List (List ℕ))
    (touching : List PointRow) : Type 0 where
  pub inside : (s : List ℕ) → in_fence g work cut s ≡ in_fence h work cut s
  pub fence : fence_of h work cut ≡ record (fence_of g work cut) { touching = touching }

-- ADDITIONS KEEP FENCES: a section more leaves the fence of each known section as it was, and so
-- does a point more both of whose ends are inside, or none: inside, it touches the fence
pub record AdditionsKeepFences : Type 0 where
  pub section : (g : Grid) → IsNetwork g → (row : SectionRow) → IsTrue (fits_section g row)
      → (work : List ℕ) (cut : List (List ℕ)) → IsTrue (has_name (section_names g.sections) work)
      → KeepsFence g (with_section row g) work cut (fence_of g work cut).touching
  pub point : (g : Grid) → IsNetwork g → (p : PointRow) → IsTrue (fits_point g p)
      → (work : List ℕ) (cut : List (List ℕ)) → IsTrue (has_name (section_names g.sections) work)
      → in_fence g work cut p.from_end ≡ in_fence g work cut p.to_end
      → KeepsFence g (with_point p g) work cut
      (touching_with (in_fence g work cut) p (fence_of g work cut).touching)
