-- The marks of the sources, spread over the links of closed points, are those of the live sections.
use Rattle.std.proofs.Common.{◌≡◌, ◌∙◌, ◌<◌, ℕ, inl, inr, Bool, true, false, List, [], ◌∷◌, All, Contains, IsTrue, filter, get_or, length, map, position, Some, Less, Equal, refl, sym, ap, subst, arith}
use Rattle.std.proofs.Math.ListN.{get_or-eq_default}
use Rattle.std.proofs.lemmas.Bool.{and_parts, cases_lt, lt-ltb}
use Rattle.std.proofs.lemmas.Cmp.{nat_list_cmp_total, tied_itself}
use Rattle.std.proofs.lemmas.List.{get_or-map, length-map}
use Rattle.std.proofs.lemmas.List.Elements.{All-contains, Contains-get_or}
use Rattle.std.proofs.lemmas.List.Quantifiers.{position-Some}
use Rattle.std.specs.List.Sorted.{IsStrictlySortedBy}
use Rattle.std.proofs.lemmas.Map.Keys.{Less-from_sorted}
use Rattle.clr_net.specs.Grid.{Grid, IsNetwork, has_ends, section_names, unplaced}
use Rattle.clr_net.specs.Index.{place_in}
use Rattle.clr_net.specs.Names.{has_name}
use Rattle.clr_net.specs.Name.{name_cmp, same_name}
use Rattle.clr_net.specs.declared.point.PointRow.{PointRow}
use Rattle.clr_net.specs.declared.section.SectionRow.{SectionRow}
use Rattle.clr_net.proofs.KeptRows.{Contains-filter, kept_there, mapped_from, there_mapped}
use Rattle.clr_net.proofs.Places.{place_inside, place_of_name}
use Rattle.clr_net.proofs.Walks.{one_name, same_tests}
use Rattle.clr_rules.proofs.lists.NamedRows.{has_name-row}
use Rattle.clr_rules.proofs.live.LiveSections.{closed_point_carries_on, live_is_least, source_is_live}
use Rattle.clr_rules.specs.Live.{is_closed_point, is_live}
use Rattle.clr_rules.specs.laws.Live.{CarriesOn}
use Rattle.clr_rules.specs.declared.point_state.PointState.{PointState}
use Rattle.clr_view.specs.Live.{AreMarksOf, closed_links, link_of, source_marks}
use Rattle.clr_view.specs.Spread.{IsThere, NoneLeaves, Spreads, Within, is_marked}
use Rattle.clr_view.specs.declared.spread.Link.{Link}

all_from : {X : Type 0} (P : X → Type 0) (xs : List X) → ((x : X) → Contains xs x → P x) → All P xs
all_from P xs each k d inside = each (get_or xs k d) (Contains-get_or xs k d inside)

-- the name at the place of a name that is there
name_at : (names : List (List ℕ)) (s : List ℕ) → has_name names s ≡ true → get_or names (place_in names s) [] ≡ s
name_at names s known =
    let found = position-Some (same_name s) names (place_in names s) [] (place_of_name names s known) in
    sym (one_name s (get_or names (place_in names s) []) found.1)

-- names that rise have no name at two places
never : (names : List (List ℕ)) (n : List ℕ) (i j : ℕ) → IsStrictlySortedBy name_cmp names → i < j → j < length names
    → get_or names i [] ≡ n → get_or names j [] ≡ n → Less ≡ Equal
never names n i j rises lower inside here there =
    let less : name_cmp (get_or names i []) (get_or names j []) ≡ Less = Less-from_sorted name_cmp names i j [] rises lower inside in
    sym less ∙ ap (λ m. name_cmp m (get_or names j [])) here ∙ ap (name_cmp n) there ∙ tied_itself nat_list_cmp_total n

one_place : (names : List (List ℕ)) (n : List ℕ) (i j : ℕ) → IsStrictlySortedBy name_cmp names → i < length names → j < length names
    → get_or names i [] ≡ n → get_or names j [] ≡ n → i ≡ j
one_place names n i j rises low high here there = elim (cases_lt i j) [
  | inl lower ↦ absurd (cc (never names n i j rises lower high here there))
  | inr not_lower ↦ elim (cases_lt j i) [
    | inl higher ↦ absurd (cc (never names n j i rises higher low there here))
    | inr not_higher ↦ omega (arith, not_lower, not_higher)
  ]
]

abbrev linked : List SectionRow → List PointState → List PointRow → List Link
linked sections states rows = map (link_of sections) (filter (λ (p : PointRow). is_closed_point states p.name) rows)

-- the positions of the rows do not matter
pub links_unplaced : (sections : List SectionRow) (states : List PointState) (points : List PointRow)
    → linked sections states (map unplaced points) ≡ linked sections states points
links_unplaced sections states [] = refl
links_unplaced sections states (p ∷ points) = at (is_closed_point states p.name) refl (links_unplaced sections states points)
  where
    at : (b : Bool) → is_closed_point states p.name ≡ b → linked sections states (map unplaced points) ≡ linked sections states points
        → linked sections states (map unplaced (p ∷ points)) ≡ linked sections states (p ∷ points)
    at true e more = rw e (ap (λ l. link_of sections p ∷ l) more)
    at false e more = rw e more

module _ (g : Grid) (net : IsNetwork g) (states : List PointState) where
  abbrev names : List (List ℕ)
  names = section_names g.sections

  ends_of : (p : PointRow) → Contains g.points p → (has_name names p.from_end ≡ true) × (has_name names p.to_end ≡ true)
  ends_of p there =
      and_parts (has_name names p.from_end) (has_name names p.to_end)
      (All-contains (λ (q : PointRow). IsTrue (has_ends names q)) g.points p net.ends_known there)

  -- a link is that of a closed point
  of_point : (link : Link) → Contains (closed_links g states) link
      → (p : PointRow) × Contains g.points p × (is_closed_point states p.name ≡ true) × (link_of g.sections p ≡ link)
  of_point link among =
      let (p, kept, is) = mapped_from (link_of g.sections) (filter (λ (q : PointRow). is_closed_point states q.name) g.points) link among in
      let (there, closed) = kept_there (λ (q : PointRow). is_closed_point states q.name) g.points p kept in
      (p, there, closed, is)

  link_there : (p : PointRow) → Contains g.points p → is_closed_point states p.name ≡ true → Contains (closed_links g states) (link_of g.sections p)
  link_there p there closed =
      there_mapped (link_of g.sections) (filter (λ (q : PointRow). is_closed_point states q.name) g.points) p
      (Contains-filter (λ (q : PointRow). is_closed_point states q.name) g.points p there closed)

  size : length names ≡ length g.sections
  size = length-map g.sections (λ (row : SectionRow). row.name)

  marks_size : length (source_marks g) ≡ length g.sections
  marks_size = length-map g.sections (λ (row : SectionRow). row.source)

  pub links_are_there : All (IsThere (source_marks g)) (closed_links g states)
  links_are_there = all_from (IsThere (source_marks g)) (closed_links g states) at
    where
      inside : (s : List ℕ) → has_name names s ≡ true → place_in names s < length (source_marks g)
      inside s known = let within = place_inside (same_name s) names known in omega (arith, within, size, marks_size)

      at : (link : Link) → Contains (closed_links g states) link → IsThere (source_marks g) link
      at link among =
          let (p, there, closed, is) = of_point link among in
          let ends = ends_of p there in
          subst (IsThere (source_marks g)) is (inside p.from_end ends.0, inside p.to_end ends.1)

  -- the section at a place is live
  abbrev live_at : ℕ → Bool
  live_at i = is_live g states (get_or names i [])

  none_leaves : NoneLeaves (closed_links g states) live_at
  none_leaves = all_from (λ (link : Link). live_at link.from ≡ live_at link.to) (closed_links g states) at
    where
      at : (link : Link) → Contains (closed_links g states) link → live_at link.from ≡ live_at link.to
      at link among =
          let (p, there, closed, is) = of_point link among in
          let ends = ends_of p there in
          subst (λ (l : Link). live_at l.from ≡ live_at l.to) is
          (ap (is_live g states) (name_at names p.from_end ends.0)
          ∙ closed_point_carries_on g states net p there closed
          ∙ sym (ap (is_live g states) (name_at names p.to_end ends.1)))

  -- a place that is marked is inside
  marked_inside : (marks : List Bool) (i : ℕ) → is_marked marks i ≡ true → i < length marks
  marked_inside marks i marked = elim (cases_lt i (length marks)) [
    | inl inside ↦ inside
    | inr past ↦ let none : is_marked marks i ≡ false = get_or-eq_default marks false past in absurd (cc (sym none ∙ marked))
  ]

  sources_are_live : Within (is_marked (source_marks g)) live_at
  sources_are_live i marked =
      let within = marked_inside (source_marks g) i marked in
      let inside : i < length g.sections = omega (arith, within, marks_size) in
      let d : SectionRow = record { name = []; source = false } in
      let row = get_or g.sections i d in
      let is_source : row.source ≡ true = sym (get_or-map (λ (s : SectionRow). s.source) g.sections i d false inside) ∙ marked in
      ap (is_live g states) (get_or-map (λ (s : SectionRow). s.name) g.sections i d [] inside)
      ∙ source_is_live g states net row (Contains-get_or g.sections i d inside) is_source

  module _ (marks : List Bool) (spreads : Spreads (closed_links g states) (source_marks g) marks)
      (ended : NoneLeaves (closed_links g states) (is_marked marks)) where
    abbrev inside : List ℕ → Bool
    inside s = is_marked marks (place_in names s)

    live_from_mark : (s : List ℕ) → inside s ≡ true → is_live g states s ≡ true
    live_from_mark s marked =
        let live = spreads.least live_at none_leaves sources_are_live (place_in names s) marked in
        ap (is_live g states) (sym found) ∙ live
      where
        low : place_in names s < length names
        low =
            let within = marked_inside marks (place_in names s) marked in
            let sizes = spreads.size in
            omega (arith, within, sizes, size, marks_size)

        place : position (same_name s) names ≡ Some (place_in names s)
        place = rw (lt-ltb (place_in names s) (length names) low) refl

        found : get_or names (place_in names s) [] ≡ s
        found = sym (one_name s (get_or names (place_in names s) []) (position-Some (same_name s) names (place_in names s) [] place).1)

    source_marked : (source : SectionRow) → Contains g.sections source → source.source ≡ true → inside source.name ≡ true
    source_marked source (j, within, is) is_source =
        let n = source.name in
        let named : get_or names j [] ≡ n = get_or-map (λ (s : SectionRow). s.name) g.sections j source [] within ∙ ap (λ (s : SectionRow). s.name) is in
        let low : j < length names = omega (arith, within, size) in
        let known : has_name names n ≡ true = has_name-row (λ (s : SectionRow). s.name) g.sections source (j, within, is) in
        let place : j ≡ place_in names n = one_place names n j (place_in names n) net.sections_rise low (place_inside (same_name n) names known) named (name_at names n known) in
        let marked : is_marked (source_marks g) j ≡ true =
        get_or-map (λ (s : SectionRow). s.source) g.sections j source false within ∙ ap (λ (s : SectionRow). s.source) is ∙ is_source in
        subst (λ (i : ℕ). is_marked marks i ≡ true) place (spreads.kept j marked)

    carries_on : CarriesOn g states inside
    carries_on = record {
      sources = source_marked;
      closed = λ p there closed. All-contains (λ (link : Link). is_marked marks link.from ≡ is_marked marks link.to) (closed_links g states) (link_of g.sections p) ended (link_there p there closed);
    }

    pub marks_are_live : AreMarksOf (is_live g states) g.sections marks
    marks_are_live s = same_tests (inside s) (is_live g states s) (live_from_mark s) (live_is_least g states net inside carries_on s)
