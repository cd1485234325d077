-- A fence as it is given: its names, and the rows at its places.
use Rattle.std.proofs.Common.{◌≡◌, ◌∙◌, ◌||◌, List, [], ◌∷◌, ℕ, Some, filter, map, refl, ap}
use Rattle.std.specs.Prelude.{slice_get}
use Rattle.std.specs.List.{filter_map}
use Rattle.std.specs.List.Sorted.{IsStrictlySortedBy}
use Rattle.clr_net.proofs.Walks.{same_tests}
use Rattle.clr_net.specs.Fence.{FenceRows, fence_of, in_fence, touches}
use Rattle.clr_net.specs.Grid.{Grid, IsNetwork, point_names, section_names}
use Rattle.clr_net.specs.Name.{name_cmp}
use Rattle.clr_net.specs.Names.{has_name}
use Rattle.clr_net.specs.declared.fence.RowPlaces.{RowPlaces}
use Rattle.clr_net.specs.declared.point.PointRow.{PointRow}
use Rattle.clr_net.specs.declared.section.SectionRow.{SectionRow}
use Rattle.clr_rules.specs.Fences.{work_fence}
use Rattle.clr_rules.proofs.live.FenceCuts.{in_fence_from_named, named_from_in_fence}
use Rattle.clr_book.specs.FencePlaces.{IsFenceAt}

-- a section is in a fence if its name is among those of the fence
same_inside : (g : Grid) → IsNetwork g → (work : List ℕ) (cut : List (List ℕ)) (s : List ℕ)
    → in_fence g work cut s ≡ has_name (section_names (FenceRows.sections (fence_of g work cut))) s
same_inside g net work cut s =
    same_tests (in_fence g work cut s) (has_name (work_fence g (Some work) cut) s) (named_from_in_fence g work net cut s) (in_fence_from_named g work cut s)

-- the rows of a fence are those of its names
pub named_sections : (g : Grid) → IsNetwork g → (work : List ℕ) (cut : List (List ℕ)) → FenceRows.sections (fence_of g work cut)
    ≡ filter (λ row. has_name (section_names (FenceRows.sections (fence_of g work cut))) row.name) g.sections
named_sections g net work cut = λ i. filter (λ (row : SectionRow). same_inside g net work cut row.name i) g.sections

-- and the points that touch it are those that touch the sections of its names
pub named_touching : (g : Grid) → IsNetwork g → (work : List ℕ) (cut : List (List ℕ))
    → FenceRows.touching (fence_of g work cut) ≡ filter (touches (has_name (section_names (FenceRows.sections (fence_of g work cut))))) g.points
named_touching g net work cut =
    λ i. filter (λ (p : PointRow). same_inside g net work cut p.from_end i || same_inside g net work cut p.to_end i) g.points

none_named : (sections : List SectionRow) → [] ≡ filter (λ row. has_name [] row.name) sections
none_named [] = refl
none_named (row ∷ sections) = none_named sections

none_touch : (points : List PointRow) → [] ≡ filter (touches (has_name [])) points
none_touch [] = refl
none_touch (p ∷ points) = none_touch points

-- no row is that of a fence without sections
pub none_at : (g : Grid) (places : RowPlaces) → places.sections.items ≡ [] → places.touching.items ≡ [] → IsFenceAt g [] places
none_at g places sections touching = record {
  sections = ap (filter_map (slice_get g.sections)) sections ∙ none_named g.sections;
  touching = ap (filter_map (slice_get g.points)) touching ∙ none_touch g.points;
}

pub none_rise : IsStrictlySortedBy name_cmp []
unfolding IsStrictlySortedBy
none_rise = tt

-- the names of points that are shown
pub point_names_shown : {X : Type 0} (shows : X → PointRow) (items : List X) → map (λ item. (shows item).name) items ≡ point_names (map shows items)
point_names_shown shows [] = refl
point_names_shown shows (item ∷ items) = ap (λ names. (shows item).name ∷ names) (point_names_shown shows items)
