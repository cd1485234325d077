-- Lists of places: whether a place is there, and the rows that are at places that rise.
use Rattle.std.proofs.Common.{◌≡◌, ◌∙◌, ℕ, suc, ◌+◌, ◌-◌, ◌<◌, ◌≤◌, ◌⊎◌, inl, inr, ◌==◌, ◌||◌, Bool, true, false, Option, Some, None, Result, Ok, Err, List, [], ◌∷◌, ◌++◌, length, get_or, map, filter}
use Rattle.std.proofs.Common.{refl, sym, ap, arith, subst, Bor, All, AllPairs, Contains, is_ok, slice_get, Ordering, Less, Equal, Greater, option_copied}
use Rattle.std.proofs.lemmas.Bool.Decides.{nat_tests}
use Rattle.std.specs.List.{dedup, filter_map, list_any}
use Rattle.std.specs.List.Sorted.{IsBinarySearchResult, IsPartitionPoint, IsPermutation, IsSearchInRange, IsSortedBy, IsStrictlyIncreasing}
use Rattle.std.specs.Ordering.{is_eq, is_lt, nat_cmp, ordering_reverse}
use Rattle.std.proofs.lemmas.Bool.{cases_lt, false≢true, le-ltb, lt-ltb, or_cases, or_left, or_right}
use Rattle.std.proofs.lemmas.Cmp.{nat_cmp_total}
use Rattle.std.proofs.lemmas.List.{get_or_default}
use Rattle.std.proofs.lemmas.List.Elements.{All-contains}
use Rattle.std.proofs.lemmas.List.Folds.{Any-from_list_any, list_any-append, list_any_at, list_any_none}
use Rattle.std.proofs.lemmas.List.Kept.{AllPairs-from_increasing}
use Rattle.std.proofs.lemmas.List.Sorted.{list_any-IsPermutation, searchable_from_sorted}
use Rattle.std.proofs.lemmas.Map.Keys.{Less-from_sorted, sorted_from_strictly_increasing}
use Rattle.std.proofs.lemmas.Option.{slice_get_past, slice_get_read}
use Rattle.std.specs.Cmp.{unsigned_ties}
use Rattle.std.specs.Slice.{IsItemAt}
use Rattle.std.proofs.Math.Bool.{or-false}
use Rattle.clr_net.specs.Index.{has_place}
use Rattle.clr_net.specs.Search.{points_around}
use Rattle.clr_net.specs.declared.ways.Way.{Way}
use Rattle.clr_net.proofs.ListFacts.{any-dedup}
use Rattle.clr_net.proofs.Walks.{any_from, some_from}

-- one place more
pub has_place-push : (places : List ℕ) (place i : ℕ) → has_place (places ++ place ∷ []) i ≡ (has_place places i || (i == place))
has_place-push places place i = list_any-append (λ p. i == p) places (place ∷ []) ∙ ap (λ b. has_place places i || b) (or-false (i == place))

same_place : (i : ℕ) → (i == i) ≡ true
same_place i = grind (arith, nat_tests)

-- the place at each index
pub has_at : (places : List ℕ) (k d : ℕ) → k < length places → has_place places (get_or places k d) ≡ true
has_at places k d inside = list_any_at (λ p. get_or places k d == p) places k d inside (same_place (get_or places k d))

-- and each one that is there has an index
pub place_of_has : (places : List ℕ) (i : ℕ) → has_place places i ≡ true → (k : ℕ) × (k < length places) × (get_or places k 0 ≡ i)
place_of_has places i there =
    let (k, x, inside, is, same) = Any-from_list_any (λ p. i == p) places there in
    let one : x ≡ i = grind (arith, nat_tests) in
    (k, inside, get_or_default places k 0 x inside ∙ is ∙ one)

-- what holds of all of them holds of each that is there, and the other way round
pub has_all : (P : ℕ → Type 0) (places : List ℕ) (i : ℕ) → All P places → has_place places i ≡ true → P i
has_all P places i all there =
    let (x, in_places, same) = some_from (λ p. i == p) places there in
    let one : x ≡ i = grind (arith, nat_tests) in
    subst P one (All-contains P places x all in_places)

pub all_from_has : (P : ℕ → Type 0) (places : List ℕ) → ((i : ℕ) → has_place places i ≡ true → P i) → All P places
all_from_has P places each k d inside = each (get_or places k d) (has_at places k d inside)

pub has_now : (places : List ℕ) (place : ℕ) → has_place (places ++ place ∷ []) place ≡ true
has_now places place = has_place-push places place place ∙ or_right (has_place places place) (place == place) (same_place place)

pub has_before : (places : List ℕ) (place i : ℕ) → has_place places i ≡ true → has_place (places ++ place ∷ []) i ≡ true
has_before places place i there = has_place-push places place i ∙ or_left (has_place places i) (i == place) there

pub has_cases : (places : List ℕ) (place i : ℕ) → has_place (places ++ place ∷ []) i ≡ true → (has_place places i ≡ true) ⊎ (place ≡ i)
has_cases places place i there = elim (or_cases (has_place places i) (i == place) (sym (has_place-push places place i) ∙ there)) [
  | inl before ↦ inl before
  | inr now ↦ inr (grind (arith, nat_tests))
]

-- what a sort and the dropping of repeats leave
pub has_place-in_order : (places sorted : List ℕ) (i : ℕ) → IsPermutation places sorted → has_place (dedup (λ a b. a == b) sorted) i ≡ has_place places i
has_place-in_order places sorted i moved =
    any-dedup (λ a b. a == b) (λ p. i == p) (λ x y same. let one : x ≡ y = grind (arith, nat_tests) in ap (λ p. i == p) one) sorted
    ∙ sym (list_any-IsPermutation (λ p. i == p) places sorted moved)

-- whether two places are the same, from how they compare
same_from_cmp : (p i : ℕ) (o : Ordering) → nat_cmp p i ≡ o → (i == p) ≡ is_eq (ordering_reverse o)
same_from_cmp p i o e = unsigned_ties i p ∙ ap is_eq (nat_cmp_total.antisymm i p ∙ ap ordering_reverse e)

places_in_order : (places : List ℕ) → IsStrictlyIncreasing places → IsSortedBy (λ a b. is_lt (nat_cmp a b)) places
places_in_order places rise k d low high =
    ap is_lt (nat_cmp_total.antisymm (get_or places (k + 1) d) (get_or places k d)
    ∙ ap ordering_reverse (Less-from_sorted nat_cmp places k (k + 1) d (sorted_from_strictly_increasing places rise) (omega arith) (omega arith)))

-- what a search by halves finds among places that rise
pub is_ok-search : (places : List ℕ) (i : ℕ) (r : Result ℕ ℕ) → IsStrictlyIncreasing places → IsSearchInRange r (length places)
    → IsBinarySearchResult (λ p. nat_cmp p i) places r → is_ok r ≡ has_place places i
is_ok-search places i (Ok k) rise inside found =
    sym (list_any_at (λ p. i == p) places k 0 inside (same_from_cmp (get_or places k 0) i Equal (found 0)))
is_ok-search places i (Err k) rise inside found = sym (list_any_none (λ p. i == p) places (λ j d lower. apart j d lower (cases_lt j k)))
  where
    parts : IsPartitionPoint (λ p. nat_cmp p i ≡ Less) (λ p. nat_cmp p i ≡ Greater) places k
    parts = found (searchable_from_sorted nat_cmp_total (λ p. p) places i (places_in_order places rise))

    apart : (j d : ℕ) → j < length places → (j < k) ⊎ (k ≤ j) → (i == get_or places j d) ≡ false
    apart j d lower (inl before) = same_from_cmp (get_or places j d) i Less (parts.0 j d (omega arith) before)
    apart j d lower (inr after) = same_from_cmp (get_or places j d) i Greater (parts.1 j d after lower)

-- places that rise from n on
RisesFrom : ℕ → List ℕ → Type 0
RisesFrom n [] = Unit {0}
RisesFrom n (p ∷ places) = (n ≤ p) × RisesFrom (p + 1) places

rises_from : (n : ℕ) (places : List ℕ) → All (λ p. n ≤ p) places → AllPairs (λ p q. p < q) places → RisesFrom n places
unfolding RisesFrom
rises_from n [] low pairs = tt
rises_from n (p ∷ places) low pairs = (
  low 0 p (omega arith),
  rises_from (p + 1) places (λ k d inside. let next : p < get_or places k d = pairs 0 (suc k) d (omega arith) (omega arith) in omega arith)
      (λ i j d before inside. pairs (suc i) (suc j) d (omega arith) (omega arith)),
)

none_below : (n i : ℕ) (places : List ℕ) → RisesFrom n places → i < n → has_place places i ≡ false
unfolding RisesFrom
none_below n i [] rise low = refl
none_below n i (p ∷ places) rise low =
    let here : (i == p) ≡ false = let least = rise.0 in grind (arith, nat_tests) in
    rw here (none_below (p + 1) i places rise.1 (let least = rise.0 in omega arith))

module _ {X : Type 0} (test : X → Bool) (at : ℕ → Option X) where
  nothing_there : (n : ℕ) (places : List ℕ) → ((i : ℕ) → at (n + i) ≡ None) → RisesFrom n places → filter_map at places ≡ []
  unfolding RisesFrom
  nothing_there n [] none rise = refl
  nothing_there n (p ∷ places) none rise =
      let least = rise.0 in
      let here : n + (p - n) ≡ p = omega arith in
      let past : (i : ℕ) → at (p + 1 + i) ≡ None = λ i. ap at (let shift : p + 1 + i ≡ n + (p + 1 + i - n) = omega arith in shift) ∙ none (p + 1 + i - n) in
      rw (ap at (sym here) ∙ none (p - n)) (nothing_there (p + 1) places past rise.1)

  -- one row more, where the rows after it are found
  one_more : (n : ℕ) (x : X) (rows : List X) (places : List ℕ) → at n ≡ Some x → RisesFrom n places → has_place places n ≡ test x
      → ((left : List ℕ) → RisesFrom (n + 1) left → ((i : ℕ) → n < i → has_place left i ≡ has_place places i) → filter_map at left ≡ filter test rows)
      → filter_map at places ≡ filter test (x ∷ rows)
  unfolding RisesFrom
  one_more n x rows [] first rise here more = rw (sym here) (more [] tt (λ i above. refl))
  one_more n x rows (p ∷ places) first rise here more = elim (cases_lt n p) [
    | inl above ↦
        let later : RisesFrom (n + 1) (p ∷ places) = (omega arith, rise.1) in
        let not_now : test x ≡ false = sym here ∙ none_below (n + 1) n (p ∷ places) later (omega arith) in
        rw not_now (more (p ∷ places) later (λ i after. refl))
    | inr not_above ↦
        let least = rise.0 in
        let same : p ≡ n = omega arith in
        let now : test x ≡ true = sym here ∙ ap (λ b. b || has_place places n) (let e : (n == p) ≡ true = grind (arith, nat_tests) in e) in
        let later : RisesFrom (n + 1) places = rw (← same) rise.1 in
        let apart : (i : ℕ) → n < i → has_place places i ≡ has_place (p ∷ places) i = λ i after.
        ap (λ b. b || has_place places i) (sym (let e : (i == p) ≡ false = grind (arith, nat_tests) in e)) in
        rw (now, same, first) (ap (λ ys. x ∷ ys) (more places later apart))
  ]

  -- the rows from n on that are at these places, where these are the places of the rows that pass
  picked_from : (n : ℕ) (rows : List X) (places : List ℕ) → ((i : ℕ) → at (n + i) ≡ slice_get rows i) → RisesFrom n places
      → ((i : ℕ) (x : X) → i < length rows → get_or rows i x ≡ x → has_place places (n + i) ≡ test x) → filter_map at places ≡ filter test rows
  picked_from n [] places stand rise same = nothing_there n places stand rise
  picked_from n (x ∷ rows) places stand rise same =
      let zero_shift : n ≡ n + 0 = omega arith in
      let later : (i : ℕ) → at (n + 1 + i) ≡ slice_get rows i = λ i. ap at (let shift : n + 1 + i ≡ n + suc i = omega arith in shift) ∙ stand (suc i) in
      one_more n x rows places (ap at zero_shift ∙ stand 0) rise (ap (has_place places) zero_shift ∙ same 0 x (omega arith) refl)
      (λ left rises alike. picked_from (n + 1) rows left later rises
      (λ i y inside is. alike (n + 1 + i) (omega arith) ∙ ap (has_place places) (let shift : n + 1 + i ≡ n + suc i = omega arith in shift) ∙ same (suc i) y (omega arith) is))

-- the rows at places that rise are those that pass, where the places are theirs
pub picked_is_filter : {X : Type 0} (test : X → Bool) (rows : List X) (places : List ℕ) → IsStrictlyIncreasing places
    → ((i : ℕ) (x : X) → i < length rows → get_or rows i x ≡ x → has_place places i ≡ test x) → filter_map (slice_get rows) places ≡ filter test rows
picked_is_filter test rows places rise same =
    let from_zero : (i : ℕ) → 0 + i ≡ i = λ i. omega arith in
    picked_from test (slice_get rows) 0 rows places (λ i. ap (slice_get rows) (from_zero i)) (rises_from 0 places (λ k d inside. omega arith) (AllPairs-from_increasing places rise))
    (λ i x inside is. ap (has_place places) (from_zero i) ∙ same i x inside is)

-- a point of these sections' ways is one of theirs
pub around_has : (around : ℕ → List Way) (places : List ℕ) (i : ℕ) (w : Way) → has_place places i ≡ true → Contains (around i) w
    → has_place (points_around around places) w.point ≡ true
around_has around [] i w here there = absurd (false≢true here)
around_has around (p ∷ places) i w here there =
    list_any-append (λ k. w.point == k) (map (λ (w : Way). w.point) (around p)) (points_around around places)
    ∙ elim (or_cases (i == p) (has_place places i) here) [
      | inl now ↦
          let one : p ≡ i = grind (arith, nat_tests) in
          let at_p : Contains (around p) w = rw one there in
          or_left _ _ (has_point (around p) w at_p)
      | inr later ↦ or_right _ _ (around_has around places i w later there)
    ]
  where
    has_point : (ways : List Way) (w : Way) → Contains ways w → has_place (map (λ (w : Way). w.point) ways) w.point ≡ true
    has_point ways w there = any_map ways ∙ any_from (λ (v : Way). w.point == v.point) ways w there (same_place w.point)
      where
        any_map : (ways : List Way) → has_place (map (λ (w : Way). w.point) ways) w.point ≡ list_any (λ (v : Way). w.point == v.point) ways
        any_map [] = refl
        any_map (v ∷ ways) = ap (λ b. (w.point == v.point) || b) (any_map ways)

-- and each of theirs is such a point
pub has_around : (around : ℕ → List Way) (places : List ℕ) (k : ℕ) → has_place (points_around around places) k ≡ true
    → (i : ℕ) × (has_place places i ≡ true) × ((w : Way) × Contains (around i) w × (w.point ≡ k))
has_around around [] k there = absurd (false≢true there)
has_around around (p ∷ places) k there =
    elim (or_cases (has_place (map (λ (w : Way). w.point) (around p)) k) (has_place (points_around around places) k)
    (sym (list_any-append (λ q. k == q) (map (λ (w : Way). w.point) (around p)) (points_around around places)) ∙ there)) [
      | inl now ↦
          let (w, in_ways, same) = some_from (λ (v : Way). k == v.point) (around p) (sym (any_map (around p)) ∙ now) in
          (p, or_left (p == p) (has_place places p) (same_place p), (w, in_ways, grind (arith, nat_tests)))
      | inr later ↦
          let (i, here, found) = has_around around places k later in
          (i, or_right (i == p) (has_place places i) here, found)
    ]
  where
    any_map : (ways : List Way) → has_place (map (λ (w : Way). w.point) ways) k ≡ list_any (λ (v : Way). k == v.point) ways
    any_map [] = refl
    any_map (v ∷ ways) = ap (λ b. (k == v.point) || b) (any_map ways)

-- what a slice's `get` gives
pub got_is : {X : Type 0} (rows : List X) (i : ℕ) (r : Option (Bor X)) → IsItemAt rows i r → slice_get rows i ≡ option_copied r
got_is rows i (Some x) got = elim (cases_lt i (length rows)) [
  | inl inside ↦ slice_get_read rows (length rows) i x.now refl inside got.1
  | inr past ↦ absurd (false≢true (sym (le-ltb i (length rows) past) ∙ sym got.0))
]
got_is rows i None got = elim (cases_lt i (length rows)) [
  | inl inside ↦ absurd (false≢true (got.0 ∙ lt-ltb i (length rows) inside))
  | inr past ↦ slice_get_past rows i past
]
