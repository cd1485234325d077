-- The computable test of a fence says what the walks say.
use Rattle.std.proofs.Common.{◌≡◌, ◌↔◌, ◌∙◌, ℕ, zero, suc, ◌+◌, ◌<◌, ◌≤◌, ◌⊎◌, inl, inr, ◌&&◌, ◌||◌, Bool, true, false, not, List, [], ◌∷◌, length, refl, sym, arith, All, Contains, IsTrue}
use Rattle.std.proofs.Common.{if◌then◌else◌}
use Rattle.clr_net.specs.Prelude.{list_any, same_name, has_name, Grid, IsNetwork, has_ends, section_names, PointRow, SectionRow}
use Rattle.std.specs.Cmp.Lexicographic.{same_text}
use Rattle.std.proofs.lemmas.Bool.{and_from, and_parts, both_ways, cases_eq, not-true, or_cases, or_left, or_right, not_from_false}
use Rattle.std.proofs.lemmas.Cmp.{nat_list_eq_equiv}
use Rattle.std.proofs.lemmas.List.Elements.{All-contains}
use Rattle.std.proofs.lemmas.List.Folds.{Any-from_list_any, list_any_at}
use Rattle.clr_net.specs.Walk.{IsClosed, Walk, joins}
use Rattle.clr_net.specs.Walk.Walk.{goes_on, stays}
use Rattle.clr_net.specs.Fence.{in_fence, leads, reaches}
use Rattle.std.proofs.lemmas.List.{length-map}

-- two names that are the same are one
pub one_name : (m n : List ℕ) → same_name m n ≡ true → m ≡ n
one_name m n e = same_text m n (sym e)

pub same_itself : (n : List ℕ) → same_name n n ≡ true
same_itself = nat_list_eq_equiv.refl

-- an element that passes makes `list_any` pass
pub any_from : {X : Type 0} (p : X → Bool) (xs : List X) (x : X) → Contains xs x → p x ≡ true → list_any p xs ≡ true
any_from p xs x there e = let (k, inside, is) = there in list_any_at p xs k x inside (rw is e)

-- the element that makes `list_any` pass
pub some_from : {X : Type 0} (p : X → Bool) (xs : List X) → list_any p xs ≡ true → (x : X) × Contains xs x × (p x ≡ true)
some_from p xs e = let (k, x, inside, is, passes) = Any-from_list_any p xs e in (x, (k, inside, is), passes)

-- a point leads to b from a that was reached, where it joins the two and is not cut
pub leads_from : (reached : List ℕ → Bool) (cut : List (List ℕ)) (p : PointRow) (a b : List ℕ) → reached a ≡ true → has_name cut p.name ≡ false → IsTrue (joins p a b) → leads reached cut b p ≡ true
leads_from reached cut p a b at_a uncut joined =
    and_from _ _ (not_from_false _ uncut) (elim (or_cases (same_name p.from_end a && same_name p.to_end b) (same_name p.to_end a && same_name p.from_end b) joined) [
      | inl along ↦
          let (from, to) = and_parts (same_name p.from_end a) (same_name p.to_end b) along in
          or_left _ _ (and_from (reached p.from_end) (same_name p.to_end b) (rw (one_name p.from_end a from) at_a) to)
      | inr against ↦
          let (to, from) = and_parts (same_name p.to_end a) (same_name p.from_end b) against in
          or_right _ _ (and_from (reached p.to_end) (same_name p.from_end b) (rw (one_name p.to_end a to) at_a) from)
    ])

-- where a point leads from
pub from_leads : (reached : List ℕ → Bool) (cut : List (List ℕ)) (p : PointRow) (b : List ℕ) → leads reached cut b p ≡ true
    → (has_name cut p.name ≡ false) × ((a : List ℕ) × (reached a ≡ true) × IsTrue (joins p a b))
from_leads reached cut p b e =
    let (uncut, over) = and_parts (not (has_name cut p.name)) _ e in (
      not-true _ uncut,
      elim (or_cases (reached p.from_end && same_name p.to_end b) (reached p.to_end && same_name p.from_end b) over) [
        | inl along ↦
            let (at, to) = and_parts (reached p.from_end) (same_name p.to_end b) along in
            (p.from_end, at, or_left _ _ (and_from _ _ (same_itself p.from_end) to))
        | inr against ↦
            let (at, from) = and_parts (reached p.to_end) (same_name p.from_end b) against in
            (p.to_end, at, or_right _ _ (and_from _ _ (same_itself p.to_end) from))
      ],
    )

-- two tests that imply each other are one
pub same_tests : (b c : Bool) → (b ≡ true → c ≡ true) → (c ≡ true → b ≡ true) → b ≡ c
same_tests true c right left = sym (right refl)
same_tests false true right left = left refl
same_tests false false right left = refl

-- two tests that agree at each element pass alike
any_same : {X : Type 0} (p q : X → Bool) (xs : List X) → ((x : X) → Contains xs x → p x ≡ q x) → list_any p xs ≡ list_any q xs
any_same p q [] same = refl
any_same p q (x ∷ xs) same =
    rw (same x (0, omega arith, refl), any_same p q xs (λ y there. let (k, inside, is) = there in same y (suc k, omega arith, is))) refl

-- how many of the names pass
number : (List ℕ → Bool) → List (List ℕ) → ℕ
number p [] = 0
number p (n ∷ names) = if p n then 1 + number p names else number p names

number-le-length : (p : List ℕ → Bool) (names : List (List ℕ)) → number p names ≤ length names
unfolding number
number-le-length p [] = omega arith
number-le-length p (n ∷ names) = at (p n) (number-le-length p names)
  where
    at : (b : Bool) → number p names ≤ length names → (if b then 1 + number p names else number p names) ≤ length (n ∷ names)
    at true more = omega arith
    at false more = omega arith

number_some : (p : List ℕ → Bool) (names : List (List ℕ)) (s : List ℕ) → has_name names s ≡ true → p s ≡ true → 0 < number p names
unfolding number
number_some p [] s known e = cc known
number_some p (n ∷ names) s known e = elim (or_cases (same_name s n) (has_name names s) known) [
  | inl here ↦ rw (← one_name s n here, e) (omega arith)
  | inr later ↦ at (p n) (number_some p names s later e)
]
  where
    at : (b : Bool) → 0 < number p names → 0 < (if b then 1 + number p names else number p names)
    at true more = omega arith
    at false more = more

-- a test that passes more either agrees at each name, or passes at more names
grows : (p q : List ℕ → Bool) → ((s : List ℕ) → p s ≡ true → q s ≡ true) → (names : List (List ℕ))
    → (((s : List ℕ) → has_name names s ≡ true → q s ≡ p s) × (number p names ≤ number q names)) ⊎ (number p names < number q names)
unfolding number
grows p q up [] = inl (λ s known. cc known, omega arith)
grows p q up (n ∷ names) = at (p n) (q n) refl refl (grows p q up names)
  where
    agree : q n ≡ p n → ((s : List ℕ) → has_name names s ≡ true → q s ≡ p s) → (s : List ℕ) → has_name (n ∷ names) s ≡ true → q s ≡ p s
    agree here later s known = elim (or_cases (same_name s n) (has_name names s) known) [ inl first ↦ rw (one_name s n first) here | inr rest ↦ later s rest ]

    at : (b c : Bool) → p n ≡ b → q n ≡ c
        → ((((s : List ℕ) → has_name names s ≡ true → q s ≡ p s) × (number p names ≤ number q names)) ⊎ (number p names < number q names))
        → (((s : List ℕ) → has_name (n ∷ names) s ≡ true → q s ≡ p s) × (number p (n ∷ names) ≤ number q (n ∷ names))) ⊎ (number p (n ∷ names) < number q (n ∷ names))
    at true true e f (inl m) = inl (agree (f ∙ sym e) m.0, rw (e, f) (omega (arith, m.1)))
    at true true e f (inr m) = inr (rw (e, f) (omega arith))
    at false false e f (inl m) = inl (agree (f ∙ sym e) m.0, rw (e, f) m.1)
    at false false e f (inr m) = inr (rw (e, f) m)
    at false true e f (inl m) = inr (rw (e, f) (omega (arith, m.1)))
    at false true e f (inr m) = inr (rw (e, f) (omega arith))
    at true false e f more = absurd (both_ways _ f (up n e))

module _ (points : List PointRow) (cut : List (List ℕ)) (work : List ℕ) where
  -- what is reached in n steps is reached by a walk
  pub walk_from_reaches : (n : ℕ) (s : List ℕ) → reaches points cut work n s ≡ true → Walk points cut work s
  unfolding reaches
  walk_from_reaches zero s e = stays s (one_name work s e)
  walk_from_reaches (suc n) s e = elim (or_cases (reaches points cut work n s) (list_any (leads (reaches points cut work n) cut s) points) e) [
    | inl before ↦ walk_from_reaches n s before
    | inr by ↦
        let (p, there, led) = some_from (leads (reaches points cut work n) cut s) points by in
        let (uncut, (a, at_a, joined)) = from_leads (reaches points cut work n) cut p s led in
        goes_on p a s (walk_from_reaches n a at_a) there uncut joined
  ]

  -- one step more reaches what was reached
  reaches_more : (n : ℕ) (s : List ℕ) → reaches points cut work n s ≡ true → reaches points cut work (suc n) s ≡ true
  unfolding reaches
  reaches_more n s e = or_left _ _ e

  -- a step over a point
  reaches_step : (n : ℕ) (p : PointRow) (a b : List ℕ) → reaches points cut work n a ≡ true → Contains points p → has_name cut p.name ≡ false → IsTrue (joins p a b) → reaches points cut work (suc n) b ≡ true
  unfolding reaches
  reaches_step n p a b at_a there uncut joined =
      or_right _ _ (any_from (leads (reaches points cut work n) cut b) points p there (leads_from (reaches points cut work n) cut p a b at_a uncut joined))

  -- one step more reaches none of the names that was not reached
  Agrees : List (List ℕ) → ℕ → Type 0
  Agrees names n = (s : List ℕ) → has_name names s ≡ true → reaches points cut work (suc n) s ≡ reaches points cut work n s

  module _ (names : List (List ℕ)) (known : All (λ p. IsTrue (has_ends names p)) points) where
    ends_of_point : (p : PointRow) → Contains points p → (has_name names p.from_end ≡ true) × (has_name names p.to_end ≡ true)
    ends_of_point p there = and_parts _ _ (All-contains (λ p. IsTrue (has_ends names p)) points p known there)

    -- then a further step reaches none either
    agrees_more : (n : ℕ) → Agrees names n → Agrees names (suc n)
    unfolding Agrees reaches
    agrees_more n same s there =
        let led = any_same (leads (reaches points cut work (suc n)) cut s) (leads (reaches points cut work n) cut s) points
        (λ p in_points.
        let (from, to) = ends_of_point p in_points in
        rw (same p.from_end from, same p.to_end to) refl) in
        rw led (again (reaches points cut work n s) (list_any (leads (reaches points cut work n) cut s) points))
      where
        again : (b c : Bool) → (b || c || c) ≡ (b || c)
        again true c = refl
        again false true = refl
        again false false = refl

    agrees_up : (n m : ℕ) → n ≤ m → Agrees names n → Agrees names m
    agrees_up n zero below same = let e : n ≡ 0 = omega arith in rw (← e) same
    agrees_up n (suc m) below same = elim (cases_eq n (suc m)) [
      | inl e ↦ rw (← e) same
      | inr other ↦ agrees_more m (agrees_up n m (omega arith) same)
    ]

    module _ (start : has_name names work ≡ true) where
      -- each step reaches a name more, until one reaches none
      steady : (n : ℕ) → ((j : ℕ) × (j ≤ n) × Agrees names j) ⊎ (n < number (reaches points cut work n) names)
      unfolding Agrees reaches
      steady zero = inr (number_some (reaches points cut work zero) names work start (same_itself work))
      steady (suc n) = elim (steady n) [
        | inl found ↦ let (j, below, same) = found in inl (j, omega arith, same)
        | inr many ↦ elim (grows (reaches points cut work n) (reaches points cut work (suc n)) (reaches_more n) names) [
          | inl same ↦ inl (n, omega arith, same.0)
          | inr more ↦ inr (omega arith)
        ]
      ]

      -- as many steps as there are names reach all that is reached
      agrees_at_length : Agrees names (length names)
      agrees_at_length = elim (steady (length names)) [
        | inl found ↦ let (j, below, same) = found in agrees_up j (length names) below same
        | inr many ↦ absurd (omega (arith, number-le-length (reaches points cut work (length names)) names))
      ]

      reaches_start : (n : ℕ) → reaches points cut work n work ≡ true
      unfolding reaches
      reaches_start zero = same_itself work
      reaches_start (suc n) = or_left _ _ (reaches_start n)

      -- the end of a point's walk is a name
      known_end : (p : PointRow) (a b : List ℕ) → Contains points p → IsTrue (joins p a b) → has_name names b ≡ true
      known_end p a b there joined =
          let (from, to) = ends_of_point p there in
          elim (or_cases (same_name p.from_end a && same_name p.to_end b) (same_name p.to_end a && same_name p.from_end b) joined) [
            | inl along ↦ let (at_a, at_b) = and_parts (same_name p.from_end a) (same_name p.to_end b) along in rw (← one_name p.to_end b at_b) to
            | inr against ↦ let (at_a, at_b) = and_parts (same_name p.to_end a) (same_name p.from_end b) against in rw (← one_name p.from_end b at_b) from
          ]

      -- what a walk leads to is reached
      pub reaches_from_walk : (s : List ℕ) → Walk points cut work s → (has_name names s ≡ true) × (reaches points cut work (length names) s ≡ true)
      unfolding Agrees
      reaches_from_walk s (stays s' e) = (rw (← e) start, rw (← e) (reaches_start (length names)))
      reaches_from_walk s (goes_on p a b walk there uncut joined) =
          let (in_names, at_a) = reaches_from_walk a walk in
          let known_b = known_end p a s there joined in
          (known_b, sym (agrees_at_length s known_b) ∙ reaches_step (length names) p a s at_a there uncut joined)

-- a section is in the fence exactly where a walk from the work section leads to it
pub fence_is_walks : (g : Grid) → IsNetwork g → (work : List ℕ) (cut : List (List ℕ)) (s : List ℕ)
    → IsTrue (in_fence g work cut s) ↔ (IsTrue (has_name (section_names g.sections) work) × Walk g.points cut work s)
unfolding in_fence
fence_is_walks g net work cut s = (
  λ e.
      let (known, reached) = and_parts (has_name (section_names g.sections) work) (reaches g.points cut work (length g.sections) s) e in
      (known, walk_from_reaches g.points cut work (length g.sections) s reached),
  λ h.
      let (known, walk) = h in
      let size : length (section_names g.sections) ≡ length g.sections = length-map g.sections (λ (row : SectionRow). row.name) in
      and_from _ _ known (rw (← size) (reaches_from_walk g.points cut work (section_names g.sections) net.ends_known known s walk).1),
)

-- the fence has the work section, and no point leaves it but those that are cut
pub fence_is_closed : (g : Grid) → IsNetwork g → (work : List ℕ) (cut : List (List ℕ))
    → (IsTrue (has_name (section_names g.sections) work) → IsTrue (in_fence g work cut work)) × IsClosed g.points cut (in_fence g work cut)
fence_is_closed g net work cut = (
  λ known. (fence_is_walks g net work cut work).1 (known, stays work refl),
  λ p there uncut. same_tests (in_fence g work cut p.from_end) (in_fence g work cut p.to_end)
      (λ from. on p there uncut p.from_end p.to_end (or_left _ _ (and_from _ _ (same_itself p.from_end) (same_itself p.to_end))) from)
      (λ to. on p there uncut p.to_end p.from_end (or_right _ _ (and_from _ _ (same_itself p.to_end) (same_itself p.from_end))) to),
)
  where
    on : (p : PointRow) → Contains g.points p → has_name cut p.name ≡ false → (a b : List ℕ) → IsTrue (joins p a b) → in_fence g work cut a ≡ true → in_fence g work cut b ≡ true
    on p there uncut a b joined inside =
        let (known, walk) = (fence_is_walks g net work cut a).0 inside in
        (fence_is_walks g net work cut b).1 (known, goes_on p a b walk there uncut joined)

-- and it is the least such set
pub fence_is_least : (g : Grid) → IsNetwork g → (work : List ℕ) (cut : List (List ℕ)) (inside : List ℕ → Bool) → IsTrue (inside work) → IsClosed g.points cut inside
    → (s : List ℕ) → IsTrue (in_fence g work cut s) → IsTrue (inside s)
fence_is_least g net work cut inside start closed s e = along s ((fence_is_walks g net work cut s).0 e).1
  where
    along : (s : List ℕ) → Walk g.points cut work s → inside s ≡ true
    along s (stays s' same) = rw (← same) start
    along s (goes_on p a b walk there uncut joined) =
        let at_a = along a walk in
        let ends = closed p there uncut in
        elim (or_cases (same_name p.from_end a && same_name p.to_end s) (same_name p.to_end a && same_name p.from_end s) joined) [
          | inl forth ↦
              let (from, to) = and_parts (same_name p.from_end a) (same_name p.to_end s) forth in
              rw (← one_name p.to_end s to) (sym ends ∙ rw (one_name p.from_end a from) at_a)
          | inr against ↦
              let (to, from) = and_parts (same_name p.to_end a) (same_name p.from_end s) against in
              rw (← one_name p.from_end s from) (ends ∙ rw (one_name p.to_end a to) at_a)
        ]
