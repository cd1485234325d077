-- The live sections are those that closed points join to a source.
use Rattle.std.proofs.Common.{◌≡◌, ◌↔◌, ◌∙◌, ℕ, Bool, true, false, ◌&&◌, not, List, Contains, refl, sym, ap}
use Rattle.std.proofs.lemmas.Bool.{and_from, and_parts, not-false}
use Rattle.clr_rules.proofs.Common.{in_fence, Grid, IsNetwork, point_names, has_name, PointRow, SectionRow, PointState}
use Rattle.clr_net.specs.Walk.{Walk}
use Rattle.clr_net.specs.Walk.Walk.{goes_on, stays}
use Rattle.clr_net.proofs.Walks.{any_from, fence_is_closed, fence_is_least, fence_is_walks, same_tests, some_from}
use Rattle.clr_rules.specs.Live.{ClosedWalk, IsLive, feeds, is_closed_point, is_live, open_points}
use Rattle.clr_rules.specs.laws.Live.{CarriesOn}
use Rattle.clr_rules.specs.Live.ClosedWalk.{at_source, over_closed}
use Rattle.clr_rules.proofs.lists.NamedRows.{has_name-filter, has_name-row}

module _ (g : Grid) (states : List PointState) where
  -- a point of the network is among the open ones exactly where it is not closed
  pub open_is_not_closed : (p : PointRow) → Contains g.points p → has_name (open_points g states) p.name ≡ not (is_closed_point states p.name)
  unfolding open_points
  open_is_not_closed p there =
      has_name-filter (λ n. not (is_closed_point states n)) (point_names g.points) p.name
      ∙ rw (has_name-row (λ (row : PointRow). row.name) g.points p there) (and_true (not (is_closed_point states p.name)))
    where
      and_true : (b : Bool) → (b && true) ≡ b
      and_true true = refl
      and_true false = refl

  pub not_open_from_closed : (p : PointRow) → Contains g.points p → is_closed_point states p.name ≡ true → has_name (open_points g states) p.name ≡ false
  not_open_from_closed p there closed = open_is_not_closed p there ∙ ap not closed

  pub closed_from_not_open : (p : PointRow) → Contains g.points p → has_name (open_points g states) p.name ≡ false → is_closed_point states p.name ≡ true
  closed_from_not_open p there shut = not-false (is_closed_point states p.name) (sym (open_is_not_closed p there) ∙ shut)

  -- what a source feeds is live, and what is live is fed by a source
  pub live_from_source : (s : List ℕ) (source : SectionRow) → Contains g.sections source → source.source ≡ true → in_fence g source.name (open_points g states) s ≡ true
      → is_live g states s ≡ true
  unfolding is_live
  live_from_source s source there is_source inside = any_from (feeds g states s) g.sections source there (and_from source.source _ is_source inside)

  pub source_of_live : (s : List ℕ) → is_live g states s ≡ true
      → (source : SectionRow) × Contains g.sections source × (source.source ≡ true) × (in_fence g source.name (open_points g states) s ≡ true)
  unfolding is_live
  source_of_live s live =
      let (source, there, fed) = some_from (feeds g states s) g.sections live in
      let (is_source, inside) = and_parts source.source (in_fence g source.name (open_points g states) s) fed in
      (source, there, is_source, inside)

  -- a closed walk is one over points that are not open
  pub closed_from_open_walk : (source s : List ℕ) → Walk g.points (open_points g states) source s → ClosedWalk g.points states source s
  closed_from_open_walk source s (stays s' same) = at_source s' same
  closed_from_open_walk source s (goes_on p a b walk there shut joined) =
      over_closed p a b (closed_from_open_walk source a walk) there (closed_from_not_open p there shut) joined

  pub open_from_closed_walk : (source s : List ℕ) → ClosedWalk g.points states source s → Walk g.points (open_points g states) source s
  open_from_closed_walk source s (at_source s' same) = stays s' same
  open_from_closed_walk source s (over_closed p a b walk there closed joined) =
      goes_on p a b (open_from_closed_walk source a walk) there (not_open_from_closed p there closed) joined

  module _ (net : IsNetwork g) where
    pub source_is_live : (source : SectionRow) → Contains g.sections source → source.source ≡ true → is_live g states source.name ≡ true
    source_is_live source there is_source =
        live_from_source source.name source there is_source
        ((fence_is_closed g net source.name (open_points g states)).0 (has_name-row (λ (row : SectionRow). row.name) g.sections source there))

    carries : (p : PointRow) → Contains g.points p → is_closed_point states p.name ≡ true → (a b : List ℕ)
        → ((source : List ℕ) → in_fence g source (open_points g states) a ≡ in_fence g source (open_points g states) b)
        → is_live g states a ≡ true → is_live g states b ≡ true
    carries p there closed a b alike live =
        let (source, in_sections, is_source, inside) = source_of_live a live in
        live_from_source b source in_sections is_source (sym (alike source.name) ∙ inside)

    pub closed_point_carries_on : (p : PointRow) → Contains g.points p → is_closed_point states p.name ≡ true → is_live g states p.from_end ≡ is_live g states p.to_end
    closed_point_carries_on p there closed =
        let alike : (source : List ℕ) → in_fence g source (open_points g states) p.from_end ≡ in_fence g source (open_points g states) p.to_end =
        λ source. (fence_is_closed g net source (open_points g states)).1 p there (not_open_from_closed p there closed) in
        same_tests (is_live g states p.from_end) (is_live g states p.to_end)
        (carries p there closed p.from_end p.to_end alike) (carries p there closed p.to_end p.from_end (λ source. sym (alike source)))

    pub live_is_least : (inside : List ℕ → Bool) → CarriesOn g states inside → (s : List ℕ) → is_live g states s ≡ true → inside s ≡ true
    live_is_least inside carried s live =
        let (source, there, is_source, reached) = source_of_live s live in
        fence_is_least g net source.name (open_points g states) inside (carried.sources source there is_source)
        (λ p in_points shut. carried.closed p in_points (closed_from_not_open p in_points shut)) s reached

    pub live_is_walks : (s : List ℕ)
        → (is_live g states s ≡ true) ↔ ((source : SectionRow) × Contains g.sections source × (source.source ≡ true) × Walk g.points (open_points g states) source.name s)
    live_is_walks s = (
      λ live.
          let (source, there, is_source, reached) = source_of_live s live in
          (source, there, is_source, ((fence_is_walks g net source.name (open_points g states) s).0 reached).1),
      λ found.
          let (source, there, is_source, walk) = found in
          live_from_source s source there is_source
          ((fence_is_walks g net source.name (open_points g states) s).1 (has_name-row (λ (row : SectionRow). row.name) g.sections source there, walk)),
    )

    pub live_is_closed_walks : (s : List ℕ)
        → (is_live g states s ≡ true) ↔ IsLive g states s
    live_is_closed_walks s = (
      λ live.
          let (source, there, is_source, walk) = (live_is_walks s).0 live in
          (source, there, is_source, closed_from_open_walk source.name s walk),
      λ found.
          let (source, there, is_source, walk) = found in
          (live_is_walks s).1 (source, there, is_source, open_from_closed_walk source.name s walk),
    )
