-- The fence of a section: every section that a walk over points that are not cut leads to, whatever
-- the points' positions.
use Rattle.std.specs.Prelude.{◌≡◌, ◌↔◌, ℕ, zero, suc, ◌+◌, Bool, ◌&&◌, ◌||◌, not, if◌then◌else◌}
use Rattle.std.specs.Prelude.{◌==◌, IsTrue, List, length, filter}
use Rattle.std.specs.List.{list_any}
use Rattle.clr_net.specs.Name.{same_name}
use Rattle.clr_net.specs.Names.{has_name}
use Rattle.clr_net.specs.Grid.{Grid, section_names}
use Rattle.clr_net.specs.Walk.{Walk}
use Rattle.clr_net.specs.declared.section.SectionRow.{SectionRow}
use Rattle.clr_net.specs.declared.point.PointRow.{PointRow}

-- whether a point that is not cut leads to a section from one that passes the test
abbrev pub leads : (List ℕ → Bool) → List (List ℕ) → List ℕ → PointRow → Bool
leads reached cut s p = not (has_name cut p.name)
    && ((reached p.from_end && same_name p.to_end s)
    || (reached p.to_end && same_name p.from_end s))

-- whether a walk over at most n points that are not cut leads from the work section to s
unfoldable pub reaches : List PointRow → List (List ℕ) → List ℕ → ℕ → List ℕ → Bool
reaches points cut work zero s = same_name work s
reaches points cut work (suc n) s = reaches points cut work n s
    || list_any (leads (reaches points cut work n) cut s) points

-- whether a section is in the fence of the work section, cut at these points; a walk that is longer
-- than there are sections leads nowhere that a shorter one does not
unfoldable pub in_fence : Grid → List ℕ → List (List ℕ) → List ℕ → Bool
in_fence g work cut s = has_name (section_names g.sections) work
    && reaches g.points cut work (length g.sections) s

-- whether a point has an end among these sections
abbrev pub touches : (List ℕ → Bool) → PointRow → Bool
touches inside p = inside p.from_end || inside p.to_end

-- a fence as contracts see it: the rows of its sections, and of the points with an end inside, in
-- the order of names
pub record FenceRows : Type 0 where
  pub sections : List SectionRow
  pub touching : List PointRow

-- the fence of the work section, cut at these points
abbrev pub fence_of : Grid → List ℕ → List (List ℕ) → FenceRows
fence_of g work cut = record {
  sections = filter (λ row. in_fence g work cut row.name) g.sections;
  touching = filter (touches (in_fence g work cut)) g.points;
}

-- whether a fence has a section
abbrev pub fence_has : FenceRows → List ℕ → Bool
fence_has fence s = has_name (section_names fence.sections) s

-- A FENCE BY WALKS: it has a section exactly where the work section is one of the network's and a
-- walk over points that are not cut leads from it to the section. Its rows are those of the network
-- at the sections that it has, and those of the points with an end in one of these
pub record IsFenceByWalks (g : Grid) (work : List ℕ) (cut : List (List ℕ))
    (fence : FenceRows) : Type 0 where
  pub walks : (s : List ℕ) → IsTrue (fence_has fence s)
      ↔ (IsTrue (has_name (section_names g.sections) work) × Walk g.points cut work s)
  pub sections : fence.sections ≡ filter (λ row. fence_has fence row.name) g.sections
  pub touching : fence.touching ≡ filter (touches (fence_has fence)) g.points

-- how many ends of a point lie inside a fence
abbrev pub sides_of : FenceRows → PointRow → ℕ
sides_of fence p = (if fence_has fence p.from_end then 1 else 0)
    + (if fence_has fence p.to_end then 1 else 0)

-- whether a point is on the border of a fence: exactly one of its ends lies inside
abbrev pub is_on_border : FenceRows → PointRow → Bool
is_on_border fence p = sides_of fence p == 1
