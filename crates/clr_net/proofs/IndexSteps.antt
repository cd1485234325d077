-- The steps that fill the index of a network, and what is read of it.
use Rattle.std.proofs.Common.{◌≡◌, ◌∙◌, ℕ, zero, suc, ◌+◌, ◌-◌, ◌<◌, ◌≤◌, ◌⊎◌, inl, inr, ◌==◌, Bool, true, false, List, [], ◌∷◌, ◌++◌, length, map, filter, take, drop, get_or, nat_lt, refl, sym, ap}
use Rattle.std.proofs.Common.{arith, All, Contains, IsTrue, IsPermutation}
use Rattle.std.specs.List.{AllWithin}
use Rattle.std.proofs.lemmas.Bool.{and_parts, cases_eq, cases_lt, false≢true}
use Rattle.std.proofs.lemmas.Bool.Decides.{nat_tests}
use Rattle.std.proofs.lemmas.List.{get_or-map, get_or_append_left, get_or_at, length-map}
use Rattle.std.proofs.lemmas.List.Elements.{All-map, All-weaker, Contains-append_left, Contains-push, Contains-push_cases}
use Rattle.std.proofs.lemmas.List.Sorted.{Contains-permutation, IsPermutation-sym}
use Rattle.clr_net.specs.Index.{AreBelow, IsAround, IsStart, ends_at, ends_in, out_at, way, ways_in}
use Rattle.clr_net.specs.declared.ways.Way.{Way}
use Rattle.clr_net.specs.declared.ways.Out.{Out}
use Rattle.clr_net.specs.declared.ways.Ends.{Ends}
use Rattle.clr_net.proofs.SearchSteps.{nothing_in_nil}
use Rattle.clr_net.proofs.KeptRows.{at_first, at_later, first_or_later}
use Rattle.clr_net.proofs.Places.{place_inside}
use Rattle.clr_net.specs.Prelude.{has_ends, has_name, same_name, PointRow}

-- the way out of the i-th section over the k-th point
abbrev out_over : ℕ → ℕ → ℕ → Out
out_over i k to = record { from = i; way = way k to }

-- a way that leads out of a section is one of those out of it
pub way_there : (out : List Out) (i : ℕ) (w : Way) → Contains out (record { from = i; way = w }) → Contains (ways_in out i) w
way_there [] i w there = absurd (nothing_in_nil _ there)
way_there (o ∷ out) i w there = at (way_there out i w) (o.from == i) refl (first_or_later o (record { from = i; way = w }) out there)
  where
    at : (Contains out (record { from = i; way = w }) → Contains (ways_in out i) w) → (b : Bool) → (o.from == i) ≡ b → (o ≡ record { from = i; way = w }) ⊎ Contains out (record { from = i; way = w }) → Contains (ways_in (o ∷ out) i) w
    at rest true e (inl same) = rw e (rw (← ap Out.way same) (at_first o.way (ways_in out i)))
    at rest true e (inr later) = rw e (at_later o.way w (ways_in out i) (rest later))
    at rest false e (inl same) = let one : o.from ≡ i = ap Out.from same in let yes : (o.from == i) ≡ true = grind (arith, nat_tests) in absurd (false≢true (sym e ∙ yes))
    at rest false e (inr later) = rw e (rest later)

-- and the other way round
pub out_there : (out : List Out) (i : ℕ) (w : Way) → Contains (ways_in out i) w → Contains out (record { from = i; way = w })
out_there [] i w there = absurd (nothing_in_nil w there)
out_there (o ∷ out) i w there = at (out_there out i w) (o.from == i) refl there
  where
    at : (Contains (ways_in out i) w → Contains out (record { from = i; way = w })) → (b : Bool) → (o.from == i) ≡ b → Contains (ways_in (o ∷ out) i) w → Contains (o ∷ out) (record { from = i; way = w })
    at rest true e here = elim (first_or_later o.way w (ways_in out i) (rw e at here)) [
      | inl same ↦
          let one : o.from ≡ i = grind (arith, nat_tests) in
          let is : o ≡ record { from = i; way = w } = (λ j. record { from = one j; way = same j }) in
          (0, omega arith, is)
      | inr later ↦ at_later o (record { from = i; way = w }) out (rest later)
    ]
    at rest false e here = at_later o (record { from = i; way = w }) out (rest (rw e at here))

-- one point more, which is a way at both its ends
pub around_more : (ends : List Ends) (k : ℕ) (e : Ends) (out : List Out) → IsAround ends k (ways_in out) → ends_at ends k ≡ e
    → IsAround ends (k + 1) (ways_in ((out ++ out_over e.from k e.to ∷ []) ++ out_over e.to k e.from ∷ []))
around_more ends k e out a is = record {
  real = λ i w there. elim (Contains-push_cases (out ++ forth ∷ []) back (record { from = i; way = w }) (out_there _ i w there)) [
    | inl before ↦ elim (Contains-push_cases out forth (record { from = i; way = w }) before) [
      | inl long ↦ let (lower, joined) = a.real i w (way_there out i w long) in (omega arith, joined)
      | inr by ↦ rw (← ap Out.from by, ← ap Out.way by) (omega arith, inl (rw is refl))
    ]
    | inr by ↦ rw (← ap Out.from by, ← ap Out.way by) (omega arith, inr (rw is refl))
  ];
  whole = λ j lower. elim (cases_eq j k) [
    | inl same ↦ rw (same, is) (
      way_there _ e.from (way k e.to) (Contains-append_left (out ++ forth ∷ []) (back ∷ []) forth (Contains-push out forth)),
      way_there _ e.to (way k e.from) (Contains-push (out ++ forth ∷ []) back),
    )
    | inr other ↦
        let (one, two) = a.whole j (omega arith) in
        (keeps (ends_at ends j).from (way j (ends_at ends j).to) one, keeps (ends_at ends j).to (way j (ends_at ends j).from) two)
  ];
}
  where
    forth : Out
    forth = out_over e.from k e.to

    back : Out
    back = out_over e.to k e.from

    keeps : (i : ℕ) (w : Way) → Contains (ways_in out i) w → Contains (ways_in ((out ++ forth ∷ []) ++ back ∷ []) i) w
    keeps i w there = way_there _ i w
        (Contains-append_left (out ++ forth ∷ []) (back ∷ []) _ (Contains-append_left out (forth ∷ []) _ (out_there out i w there)))

-- the order of the ways plays no part
pub around_permuted : (ends : List Ends) (n : ℕ) (old new : List Out) → IsPermutation old new → IsAround ends n (ways_in old) → IsAround ends n (ways_in new)
around_permuted ends n old new moved a = record {
  real = λ i w there. a.real i w (way_there old i w (Contains-permutation new old _ (IsPermutation-sym old new moved) (out_there new i w there)));
  whole = λ k below. let (one, two) = a.whole k below in (
    way_there new _ _ (Contains-permutation old new _ moved (out_there old _ _ one)),
    way_there new _ _ (Contains-permutation old new _ moved (out_there old _ _ two)),
  );
}

-- one section more of which it is known where its ways begin
pub starts_more : (out : List Out) (starts : List ℕ) (i start : ℕ) → length starts ≡ i → ((j : ℕ) → j < i → IsStart out j (get_or starts j 0)) → IsStart out i start
    → (j : ℕ) → j < i + 1 → IsStart out j (get_or (starts ++ start ∷ []) j 0)
starts_more out starts i start size before now j lower = elim (cases_eq j i) [
  | inl same ↦ rw (same, get_or_at starts start [] 0 i size) now
  | inr other ↦ rw (get_or_append_left starts (start ∷ []) 0 j (omega arith)) (before j (omega arith))
]

-- a filter keeps a run where its test passes that run and nothing before or after it
filter-run : {X : Type 0} (p : X → Bool) (xs : List X) (start count : ℕ) → start + count ≤ length xs
    → AllWithin (λ x. p x ≡ false) xs 0 start → AllWithin (λ x. p x ≡ true) xs start (start + count)
    → AllWithin (λ x. p x ≡ false) xs (start + count) (length xs)
    → filter p xs ≡ take count (drop start xs)
filter-run p [] zero zero fits before within after = refl
filter-run p [] zero (suc count) fits before within after = absurd (omega arith)
filter-run p [] (suc start) count fits before within after = absurd (omega arith)
filter-run p (x ∷ rest) zero zero fits before within after =
    rw (after 0 x (omega arith) (omega arith))
    (filter-run p rest 0 0 (omega arith) (λ k d le lt. absurd (omega arith)) (λ k d le lt. absurd (omega arith)) (λ k d le lt. after (suc k) d (omega arith) (omega arith)))
filter-run p (x ∷ rest) zero (suc count) fits before within after =
    rw (within 0 x (omega arith) (omega arith))
    (ap (λ xs. x ∷ xs) (filter-run p rest 0 count (omega arith) (λ k d le lt. absurd (omega arith)) (λ k d le lt. within (suc k) d (omega arith) (omega arith)) (λ k d le lt. after (suc k) d (omega arith) (omega arith))))
filter-run p (x ∷ rest) (suc start) count fits before within after =
    rw (before 0 x (omega arith) (omega arith))
    (filter-run p rest start count (omega arith) (λ k d le lt. before (suc k) d (omega arith) (omega arith)) (λ k d le lt. within (suc k) d (omega arith) (omega arith)) (λ k d le lt. after (suc k) d (omega arith) (omega arith)))

module _ (out : List Out) (i start end : ℕ) (starts : IsStart out i start) (ends : IsStart out (i + 1) end) where
  -- the ways out of a section begin no later than those out of the next
  pub start_le_end : start ≤ end
  start_le_end = elim (cases_lt end start) [
    | inl later ↦
        let o : Out = out_over 0 0 0 in
        let lower : nat_lt (get_or out end o).from i ≡ true = starts.1.0 end o (omega arith) later in
        let higher : nat_lt (get_or out end o).from (i + 1) ≡ false = ends.1.1 end o (omega arith) (let fits = starts.0 in omega arith) in
        absurd (grind (arith, nat_tests))
    | inr before ↦ before
  ]

  -- and are the run between these two places
  pub run_is : out_at out i ≡ take (end - start) (drop start out)
  run_is =
      let le = start_le_end in
      let fits = ends.0 in
      filter-run (λ (o : Out). o.from == i) out start (end - start) (omega arith)
      (λ k d low high. let before : nat_lt (get_or out k d).from i ≡ true = starts.1.0 k d low high in let no : ((get_or out k d).from == i) ≡ false = grind (arith, nat_tests) in no)
      (λ k d low high.
      let from : nat_lt (get_or out k d).from i ≡ false = starts.1.1 k d low (omega arith) in
      let below : nat_lt (get_or out k d).from (i + 1) ≡ true = ends.1.0 k d (omega arith) (omega arith) in
      let yes : ((get_or out k d).from == i) ≡ true = grind (arith, nat_tests) in yes)
      (λ k d low high. let after : nat_lt (get_or out k d).from (i + 1) ≡ false = ends.1.1 k d (omega arith) high in let no : ((get_or out k d).from == i) ≡ false = grind (arith, nat_tests) in no)

-- the ways out of one section lead to sections
pub outs_fit : (outs : List Out) (n : ℕ) → ((w : Way) → Contains (map (λ o. o.way) outs) w → w.to < n) → All (λ (o : Out). o.way.to < n) outs
outs_fit outs n fit k d inside =
    let size = length-map outs (λ (o : Out). o.way) in
    fit (get_or outs k d).way (k, omega (arith, size), get_or-map (λ (o : Out). o.way) outs k d (get_or outs k d).way inside)

-- the places of known ends are below the number of names
pub ends_below : (names : List (List ℕ)) (points : List PointRow) → All (λ p. IsTrue (has_ends names p)) points → All (AreBelow (length names)) (map (ends_in names) points)
ends_below names points known =
    All-map (AreBelow (length names)) (ends_in names) points
    (All-weaker (λ p. IsTrue (has_ends names p)) (λ p. AreBelow (length names) (ends_in names p)) below points known)
  where
    below : (p : PointRow) → IsTrue (has_ends names p) → AreBelow (length names) (ends_in names p)
    below p both =
        let (from, to) = and_parts (has_name names p.from_end) (has_name names p.to_end) both in
        (place_inside (same_name p.from_end) names from, place_inside (same_name p.to_end) names to)
