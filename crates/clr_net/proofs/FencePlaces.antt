-- The search over places finds the fence of the names.
use Rattle.std.proofs.Common.{◌≡◌, ◌∙◌, ℕ, zero, suc, ◌<◌, inl, inr, ◌&&◌, ◌||◌, true, false, Some, List, [], ◌∷◌, length, get_or, filter, position, refl, sym, ap, arith, All, Contains, IsTrue}
use Rattle.std.proofs.Common.{is_some, slice_get, filter_map, Less}
use Rattle.std.specs.List.Sorted.{IsStrictlyIncreasing, IsStrictlySortedBy}
use Rattle.std.proofs.lemmas.Bool.{and_from, and_left, and_parts, or_cases, or_left, or_right}
use Rattle.std.proofs.lemmas.List.{get_or-map, length-map}
use Rattle.std.proofs.lemmas.List.Elements.{All-contains}
use Rattle.std.proofs.lemmas.List.Quantifiers.{position-Some}
use Rattle.std.proofs.lemmas.List.Sums.{position_or_len_is}
use Rattle.std.proofs.lemmas.Map.Keys.{Less-from_sorted}
use Rattle.std.proofs.lemmas.Option.{same_Some}
use Rattle.clr_net.specs.Prelude.{name_cmp, same_name, has_name, Grid, IsNetwork, has_ends, point_names, section_names, fence_of, in_fence, PointRow, SectionRow}
use Rattle.clr_net.specs.Walk.{Walk, joins}
use Rattle.clr_net.specs.Walk.Walk.{goes_on, stays}
use Rattle.clr_net.proofs.IndexSteps.{ends_below}
use Rattle.clr_net.proofs.PlaceLists.{around_has, has_around, picked_is_filter}
use Rattle.clr_net.specs.Index.{AreBelow, PlaceWalk, WaysFit, ends_at, ends_in, has_place, place_in, way}
use Rattle.clr_net.specs.Index.PlaceWalk.{begins, follows}
use Rattle.clr_net.specs.Search.{Finds, ListsCut, ListsFence, points_around}
use Rattle.clr_net.specs.Ways.{IsIndexOf, around_of}
use Rattle.clr_net.specs.declared.ways.Ends.{Ends}
use Rattle.clr_net.specs.declared.ways.Ways.{Ways}
use Rattle.clr_net.proofs.Places.{is_some-position, place_inside, place_of_name, same_from_cmp}
use Rattle.clr_net.proofs.Walks.{fence_is_walks, one_name, same_itself, same_tests}

-- the element at a place
element_at : {X : Type 0} (xs : List X) (k : ℕ) → k < length xs → (x : X) × (get_or xs k x ≡ x)
element_at [] k inside = absurd (omega arith)
element_at (x ∷ xs) zero inside = (x, refl)
element_at (x ∷ xs) (suc k) inside = element_at xs k (omega arith)

-- the name at the place of a name
name_at_place : (names : List (List ℕ)) (n : List ℕ) → has_name names n ≡ true → get_or names (place_in names n) [] ≡ n
name_at_place names n known = sym (one_name n (get_or names (place_in names n) []) (position-Some (same_name n) names (place_in names n) [] (place_of_name names n known)).1)

-- the place of the name at a place, where names rise
pub place_at : (names : List (List ℕ)) (i : ℕ) → IsStrictlySortedBy name_cmp names → i < length names → place_in names (get_or names i []) ≡ i
place_at names i rises inside = position_or_len_is (same_name (get_or names i [])) names i [] (omega arith)
    (λ k before. same_from_cmp (get_or names k []) (get_or names i []) Less (Less-from_sorted name_cmp names k i [] rises before inside))
    (λ _. same_itself (get_or names i []))

-- a section at a place is the end of a point whose place that is
end_is : (names : List (List ℕ)) (n : List ℕ) (j : ℕ) → has_name names n ≡ true → place_in names n ≡ j → same_name n (get_or names j []) ≡ true
end_is names n j known e = rw (← e, name_at_place names n known) (same_itself n)

joins_forth : (names : List (List ℕ)) (p : PointRow) (j k : ℕ) → has_name names p.from_end ≡ true → has_name names p.to_end ≡ true → ends_in names p ≡ record { from = j; to = k }
    → IsTrue (joins p (get_or names j []) (get_or names k []))
joins_forth names p j k from to e =
    or_left _ _ (and_from _ _ (end_is names p.from_end j from (ap (λ (e : Ends). e.from) e)) (end_is names p.to_end k to (ap (λ (e : Ends). e.to) e)))

joins_back : (names : List (List ℕ)) (p : PointRow) (j k : ℕ) → has_name names p.from_end ≡ true → has_name names p.to_end ≡ true → ends_in names p ≡ record { from = k; to = j }
    → IsTrue (joins p (get_or names j []) (get_or names k []))
joins_back names p j k from to e =
    or_right _ _ (and_from _ _ (end_is names p.to_end j to (ap (λ (e : Ends). e.to) e)) (end_is names p.from_end k from (ap (λ (e : Ends). e.from) e)))

-- the ends of the point at a place
point_ends : (g : Grid) (ways : Ways) → IsIndexOf g ways → (k : ℕ) (p : PointRow) → k < length g.points → get_or g.points k p ≡ p → ends_at ways.ends.items k ≡ ends_in (section_names g.sections) p
point_ends g ways index k p inside is =
    rw index.ends (get_or-map (ends_in (section_names g.sections)) g.points k p (record { from = 0; to = 0 }) inside ∙ ap (ends_in (section_names g.sections)) is)

module _ (g : Grid) (net : IsNetwork g) (ways : Ways) (index : IsIndexOf g ways) (work : List ℕ) (cut : List (List ℕ)) (cuts : List ℕ)
    (listed : ListsCut (point_names g.points) cut cuts) (start : ℕ) where
  -- whether the point at a place is cut
  cut_at : (k : ℕ) (p : PointRow) → k < length g.points → get_or g.points k p ≡ p → has_place cuts k ≡ has_name cut p.name
  cut_at k p inside is =
      let size = length-map g.points (λ (row : PointRow). row.name) in
      listed k (omega arith) ∙ ap (has_name cut) (get_or-map (λ (row : PointRow). row.name) g.points k p [] inside ∙ ap (λ (row : PointRow). row.name) is)

  known_ends : (p : PointRow) → Contains g.points p → (has_name (section_names g.sections) p.from_end ≡ true) × (has_name (section_names g.sections) p.to_end ≡ true)
  known_ends p there = and_parts _ _ (All-contains (λ p. IsTrue (has_ends (section_names g.sections) p)) g.points p net.ends_known there)

  module _ (started : position (same_name work) (section_names g.sections) ≡ Some start) where
    -- a walk over places is a walk over names
    walk_of_places : (i : ℕ) → PlaceWalk (around_of ways) cuts start i → Walk g.points cut work (get_or (section_names g.sections) i [])
    walk_of_places i (begins i' same) =
        let here = (position-Some (same_name work) (section_names g.sections) start [] started).1 in
        stays _ (rw (← same) (one_name work _ here))
    walk_of_places i (follows j w walk there passes) =
        let (below, joined) = index.around.real j w there in
        let (p, is) = element_at g.points w.point below in
        let at_point = point_ends g ways index w.point p below is in
        let in_points : Contains g.points p = (w.point, below, is) in
        let (from, to) = known_ends p in_points in
        let free = sym (cut_at w.point p below is) ∙ passes in
        goes_on p (get_or (section_names g.sections) j []) (get_or (section_names g.sections) w.to []) (walk_of_places j walk) in_points free
        (elim joined [
          | inl forth ↦ joins_forth (section_names g.sections) p j w.to from to (sym at_point ∙ forth)
          | inr back ↦ joins_back (section_names g.sections) p j w.to from to (sym at_point ∙ back)
        ])

    -- a walk over names is a walk over places
    places_of_walk : (s : List ℕ) → Walk g.points cut work s → PlaceWalk (around_of ways) cuts start (place_in (section_names g.sections) s)
    places_of_walk s (stays s' same) =
        let known = sym (is_some-position (same_name work) (section_names g.sections)) ∙ ap is_some started in
        begins _ (rw (← same) (same_Some _ _ (sym started ∙ place_of_name (section_names g.sections) work known)))
    places_of_walk s (goes_on p a b walk there free joined) =
        let (k, inside, is) = there in
        let passes : has_place cuts k ≡ false = cut_at k p inside is ∙ free in
        let (from_way, to_way) = rw (point_ends g ways index k p inside is) at (index.around.whole k inside) in
        let at_a = places_of_walk a walk in
        elim (or_cases (same_name p.from_end a && same_name p.to_end s) (same_name p.to_end a && same_name p.from_end s) joined) [
          | inl forth ↦
              let (from, to) = and_parts (same_name p.from_end a) (same_name p.to_end s) forth in
              follows (place_in (section_names g.sections) a) (way k (place_in (section_names g.sections) s)) at_a (rw (← one_name p.from_end a from, ← one_name p.to_end s to) from_way) passes
          | inr back ↦
              let (to, from) = and_parts (same_name p.to_end a) (same_name p.from_end s) back in
              follows (place_in (section_names g.sections) a) (way k (place_in (section_names g.sections) s)) at_a (rw (← one_name p.to_end a to, ← one_name p.from_end s from) to_way) passes
        ]

  -- what the search finds is the fence
  pub finds_fence : (found : List ℕ) → position (same_name work) (section_names g.sections) ≡ Some start → Finds (around_of ways) (length g.sections) cuts start found → ListsFence g work cut found
  finds_fence found started finds i inside =
      let known = sym (is_some-position (same_name work) (section_names g.sections)) ∙ ap is_some started in
      let s = get_or (section_names g.sections) i [] in
      let size = length-map g.sections (λ (row : SectionRow). row.name) in
      let (on, back) = finds i (omega arith) in
      same_tests (has_place found i) (in_fence g work cut s)
      (λ e. (fence_is_walks g net work cut s).1 (known, walk_of_places started i (on e)))
      (λ e. back (rw (place_at (section_names g.sections) i net.sections_rise (omega arith)) at (places_of_walk started s ((fence_is_walks g net work cut s).0 e).1)))

-- a section that is not known has no fence
pub no_fence : (g : Grid) (work : List ℕ) (cut : List (List ℕ)) (s : List ℕ) → has_name (section_names g.sections) work ≡ false → in_fence g work cut s ≡ false
unfolding in_fence
no_fence g work cut s unknown = and_left _ _ unknown

module _ (g : Grid) (net : IsNetwork g) (ways : Ways) (index : IsIndexOf g ways) where
  -- the ends of each point are places of sections
  pub ends_fit : All (AreBelow (length g.sections)) ways.ends.items
  ends_fit =
      let size : length (section_names g.sections) ≡ length g.sections = length-map g.sections (λ (row : SectionRow). row.name) in
      rw (index.ends, ← size) (ends_below (section_names g.sections) g.points net.ends_known)

  -- so the ways fit the marks
  pub index_fits : WaysFit (around_of ways) (length g.sections) (length g.points)
  index_fits i w there =
      let (below, joined) = index.around.real i w there in
      let ends_size : length ways.ends.items ≡ length g.points = rw index.ends (length-map g.points (ends_in (section_names g.sections))) in
      let fits = ends_fit w.point (record { from = 0; to = 0 }) (omega arith) in (
        below,
        elim joined [
          | inl forth ↦ let to = ap (λ (e : Ends). e.to) forth in omega (arith, fits.1)
          | inr back ↦ let from = ap (λ (e : Ends). e.from) back in omega (arith, fits.0)
        ],
      )

  -- the rows at the places that were found, and at those of the points beside them, are the fence
  pub picked_fence : (work : List ℕ) (cut : List (List ℕ)) (inside beside : List ℕ) → IsStrictlyIncreasing inside → ListsFence g work cut inside
      → All (λ i. i < length g.sections) inside → IsStrictlyIncreasing beside → ((k : ℕ) → has_place beside k ≡ has_place (points_around (around_of ways) inside) k)
      → record { sections = filter_map (slice_get g.sections) inside; touching = filter_map (slice_get g.points) beside } ≡ fence_of g work cut
  picked_fence work cut inside beside rise listed below beside_rise around = λ i. record { sections = sections_picked i; touching = points_picked i }
    where
      sections_picked : filter_map (slice_get g.sections) inside ≡ filter (λ row. in_fence g work cut row.name) g.sections
      sections_picked = picked_is_filter (λ row. in_fence g work cut row.name) g.sections inside rise
          (λ i x here is. listed i here ∙ ap (in_fence g work cut) (get_or-map (λ (row : SectionRow). row.name) g.sections i x [] here ∙ ap (λ (row : SectionRow). row.name) is))

      names : List (List ℕ)
      names = section_names g.sections

      -- the place of an end that lies inside
      at_end : (n : List ℕ) → has_name names n ≡ true → has_place inside (place_in names n) ≡ in_fence g work cut n
      at_end n known =
          let names_size = length-map g.sections (λ (row : SectionRow). row.name) in
          let here = place_inside (same_name n) names known in
          listed (place_in names n) (omega arith) ∙ ap (in_fence g work cut) (name_at_place names n known)

      ends : (k : ℕ) (p : PointRow) → k < length g.points → get_or g.points k p ≡ p → (has_name names p.from_end ≡ true) × (has_name names p.to_end ≡ true)
      ends k p here is = and_parts (has_name names p.from_end) (has_name names p.to_end) (All-contains (λ p. IsTrue (has_ends names p)) g.points p net.ends_known (k, here, is))

      inside_from : (k : ℕ) (p : PointRow) → k < length g.points → get_or g.points k p ≡ p → has_place (points_around (around_of ways) inside) k ≡ true
          → (in_fence g work cut p.from_end || in_fence g work cut p.to_end) ≡ true
      inside_from k p here is there =
          let (i, found, (w, in_ways, same)) = has_around (around_of ways) inside k there in
          let (low, joined) = index.around.real i w in_ways in
          let at_k : ends_at ways.ends.items w.point ≡ ends_in names p = ap (ends_at ways.ends.items) same ∙ point_ends g ways index k p here is in
          let (from, to) = ends k p here is in
          elim joined [
            | inl forth ↦
                let at_from : place_in names p.from_end ≡ i = ap (λ (e : Ends). e.from) (sym at_k ∙ forth) in
                or_left _ _ (sym (at_end p.from_end from) ∙ ap (has_place inside) at_from ∙ found)
            | inr back ↦
                let at_to : place_in names p.to_end ≡ i = ap (λ (e : Ends). e.to) (sym at_k ∙ back) in
                or_right _ _ (sym (at_end p.to_end to) ∙ ap (has_place inside) at_to ∙ found)
          ]

      from_inside : (k : ℕ) (p : PointRow) → k < length g.points → get_or g.points k p ≡ p → (in_fence g work cut p.from_end || in_fence g work cut p.to_end) ≡ true
          → has_place (points_around (around_of ways) inside) k ≡ true
      from_inside k p here is some =
          let (from_way, to_way) = rw (point_ends g ways index k p here is) at (index.around.whole k here) in
          let (from, to) = ends k p here is in
          elim (or_cases (in_fence g work cut p.from_end) (in_fence g work cut p.to_end) some) [
            | inl begins_inside ↦ around_has (around_of ways) inside (place_in names p.from_end) (way k (place_in names p.to_end)) (at_end p.from_end from ∙ begins_inside) from_way
            | inr ends_inside ↦ around_has (around_of ways) inside (place_in names p.to_end) (way k (place_in names p.from_end)) (at_end p.to_end to ∙ ends_inside) to_way
          ]

      points_picked : filter_map (slice_get g.points) beside ≡ filter (λ p. in_fence g work cut p.from_end || in_fence g work cut p.to_end) g.points
      points_picked = picked_is_filter (λ p. in_fence g work cut p.from_end || in_fence g work cut p.to_end) g.points beside beside_rise
          (λ k p here is. around k ∙ same_tests _ _ (inside_from k p here is) (from_inside k p here is))
