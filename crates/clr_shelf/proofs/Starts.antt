-- How many items come before each part, and in which part a place is.
use Rattle.std.proofs.Common.{◌≡◌, ℕ, zero, suc, ◌+◌, ◌-◌, ◌*◌, ◌/◌, ◌<◌, ◌≤◌, List, [], ◌∷◌, ◌++◌, length, get_or, set, take, refl, sym, ap, ◌∙◌, subst, arith, inl, inr, get_or-set_same}
use Rattle.std.proofs.Common.{get_or-set_other, below_more, replicate}
use Rattle.std.proofs.lemmas.List.{length-append, length-set, length-replicate, get_or_append_left, take-append-le}
use Rattle.std.proofs.lemmas.Bool.{cases_lt}
use Rattle.clr_shelf.specs.Blocks.{joined, size_at, IsSpread, HasStarts}
use Rattle.clr_shelf.proofs.Parts.{size-spares}

-- with a part, each before it has some
some_before : (size : ℕ) (sizes : ℕ → ℕ) → IsSpread size sizes → (n k : ℕ) → 0 < sizes (n + k)
    → 0 < sizes k
some_before size sizes spread zero k has = subst (λ n. 0 < sizes n) (omega arith) has
some_before size sizes spread (suc n) k has =
    let next : suc n + k ≡ n + k + 1 = omega arith in
    let here : 0 < sizes (n + k + 1) = subst (λ m. 0 < sizes m) next has in
    some_before size sizes spread n k
    (omega (arith, here, spread.filled (n + k) here, spread.fits (n + k + 1)))

-- what comes before the first part is none, also where the count begins again
first_kept : (k begin : ℕ) (starts : List ℕ) → get_or starts 0 0 ≡ 0 → k < length starts
    → (k ≡ 0 → begin ≡ 0) → get_or (set starts k begin) 0 0 ≡ 0
first_kept zero begin starts first within is = get_or-set_same starts 0 begin 0 within ∙ is refl
first_kept (suc k) begin starts first within is =
    get_or-set_other starts (suc k) 0 begin 0 (omega arith) ∙ first

first_more : (starts : List ℕ) (n : ℕ) → get_or starts 0 0 ≡ 0
    → get_or (starts ++ replicate n 0) 0 0 ≡ 0
first_more [] zero first = refl
first_more [] (suc n) first = refl
first_more (start ∷ starts) n first = first

module _ {X : Type 0} where
  more_at : (parts : List (List X)) (k : ℕ) → k < length parts
      → length (joined (take (suc k) parts)) ≡ length (joined (take k parts)) + size_at parts k
  more_at [] k within = absurd (omega arith)
  more_at (part ∷ rest) zero within = omega (arith, length-append part [])
  more_at (part ∷ rest) (suc k) within =
      omega (
        arith,
        length-append part (joined (take (suc k) rest)),
        length-append part (joined (take k rest)),
        more_at rest k (omega arith),
      )

  pub counted_more : (parts : List (List X)) (k : ℕ) → k < length parts
      → length (joined (take (k + 1) parts)) ≡ length (joined (take k parts)) + size_at parts k
  counted_more parts k within =
      let next : suc k ≡ k + 1 = omega arith in
      subst (λ n. length (joined (take n parts)) ≡ length (joined (take k parts)) + size_at parts k)
      next (more_at parts k within)

  -- no more come before a part than there are
  pub counted_le : (parts : List (List X)) (k : ℕ)
      → length (joined (take k parts)) ≤ length (joined parts)
  counted_le [] zero = omega arith
  counted_le [] (suc k) = omega arith
  counted_le (part ∷ rest) zero = omega arith
  counted_le (part ∷ rest) (suc k) =
      omega (
        arith,
        length-append part (joined (take k rest)),
        length-append part (joined rest),
        counted_le rest k,
      )

  rest_spread : (size : ℕ) (part : List X) (rest : List (List X))
      → IsSpread size (size_at (part ∷ rest)) → IsSpread size (size_at rest)
  rest_spread size part rest spread = record {
    fits = λ j. spread.fits (suc j);
    filled = λ j. let next : suc j + 1 ≡ suc (j + 1) = omega arith in
        subst (λ n. 0 < size_at (part ∷ rest) n
        → size < size_at (part ∷ rest) (suc j) + size_at (part ∷ rest) n) next
        (spread.filled (suc j));
  }

  -- a part has some where fewer come before it than there are
  pub some_there : (size : ℕ) (parts : List (List X)) → IsSpread size (size_at parts) → (k : ℕ)
      → length (joined (take k parts)) < length (joined parts) → 0 < size_at parts k
  some_there size [] spread zero more = absurd (omega arith)
  some_there size [] spread (suc k) more = absurd (omega arith)
  some_there size (part ∷ rest) spread zero more = elim (cases_lt 0 (length part)) [
    | inl some ↦ some
    | inr none ↦
        let next : 0 < size_at rest 0 =
        some_there size rest (rest_spread size part rest spread) zero
        (omega (arith, more, none, length-append part (joined rest))) in
        absurd (omega (arith, none, spread.filled 0 next, spread.fits 1))
  ]
  some_there size (part ∷ rest) spread (suc k) more =
      some_there size rest (rest_spread size part rest spread) k (omega (
        arith,
        more,
        length-append part (joined (take k rest)),
        length-append part (joined rest),
      ))

  -- all items are in the parts before an empty one
  pub counted_all : (size : ℕ) (parts : List (List X)) → IsSpread size (size_at parts) → (k : ℕ)
      → size_at parts k ≡ 0 → length (joined (take k parts)) ≡ length (joined parts)
  counted_all size parts spread k none =
      elim (cases_lt (length (joined (take k parts))) (length (joined parts))) [
        | inl more ↦ absurd (omega (arith, none, some_there size parts spread k more))
        | inr all ↦ omega (arith, all, counted_le parts k)
      ]

  -- parts of the same sizes have as many items
  same_counts : (parts others : List (List X)) (k : ℕ)
      → ((j : ℕ) → j < k → size_at parts j ≡ size_at others j)
      → k ≤ length parts → k ≤ length others
      → length (joined (take k parts)) ≡ length (joined (take k others))
  same_counts parts others zero same within there = refl
  same_counts [] others (suc k) same within there = absurd (omega arith)
  same_counts (part ∷ parts) [] (suc k) same within there = absurd (omega arith)
  same_counts (part ∷ parts) (other ∷ others) (suc k) same within there =
      omega (
        arith,
        length-append part (joined (take k parts)),
        length-append other (joined (take k others)),
        same 0 (omega arith),
        same_counts parts others k (λ j sooner. same (suc j) (omega arith)) (omega arith)
            (omega arith),
      )

  module _ (used from : ℕ) (starts : List ℕ) (parts others : List (List X))
      (begun : HasStarts used starts parts) (long : length parts ≡ length others)
      (same : (j : ℕ) → j < from → size_at parts j ≡ size_at others j) where
    -- the first parts keep their starts where they keep their sizes
    pub kept_starts : from ≤ used → HasStarts from starts others
    kept_starts sooner = record {
      each_has = begun.each_has ∙ long;
      within = omega (arith, begun.within, long, sooner);
      first = begun.first;
      some = λ k before. subst (λ n. 0 < n) (same k before)
          (begun.some k (omega (arith, before, sooner)));
      counts = λ k before. begun.counts k (omega (arith, before, sooner))
          ∙ same_counts parts others k (λ j less. same j (omega arith))
          (omega (arith, begun.within)) (omega (arith, begun.within, long));
    }

  -- and so does the one after them
  pub kept_begin : (used from : ℕ) (starts : List ℕ) (parts others : List (List X))
      → HasStarts used starts parts → length parts ≡ length others
      → ((j : ℕ) → j < from → size_at parts j ≡ size_at others j) → (0 < from → from < used)
      → get_or starts from 0 ≡ length (joined (take from others))
  kept_begin used zero starts parts others begun long same here = begun.first
  kept_begin used (suc from) starts parts others begun long same here =
      let sooner : suc from < used = here (omega arith) in
      begun.counts (suc from) sooner ∙ same_counts parts others (suc from) same
      (omega (arith, begun.within)) (omega (arith, begun.within, long))

  -- empty parts at the end change no starts
  pub more_starts : (used n : ℕ) (starts : List ℕ) (parts : List (List X))
      → HasStarts used starts parts
      → HasStarts used (starts ++ replicate n 0) (parts ++ replicate n [])
  more_starts used n starts parts begun = record {
    each_has = omega (
      arith,
      length-append starts (replicate n 0),
      length-append parts (replicate n []),
      length-replicate {A = List X} n [],
      length-replicate {A = ℕ} n 0,
      begun.each_has,
    );
    within = omega (arith, begun.within, length-append parts (replicate n []));
    first = first_more starts n begun.first;
    some = λ k before. rw (size-spares parts n k) (begun.some k before);
    counts = λ k before.
        let here : k < length starts = omega (arith, before, begun.within, begun.each_has) in
        let there : k ≤ length parts = omega (arith, before, begun.within) in
        get_or_append_left starts (replicate n 0) 0 k here ∙ begun.counts k before
        ∙ sym (ap (λ (xs : List (List X)). length (joined xs))
        (take-append-le k parts (replicate n []) there));
  }

  -- ---- where there is room, the last part has nothing

  half_full : (size : ℕ) (parts : List (List X)) → IsSpread size (size_at parts)
      → 0 < size_at parts (length parts - 1) → length parts / 2 * size ≤ length (joined parts)
  half_full size [] spread has = omega arith
  half_full size (part ∷ []) spread has = omega arith
  half_full size (first ∷ second ∷ []) spread has =
      let pair : size < length first + length second = spread.filled 0 has in
      omega (arith, pair, length-append first (second ++ []), length-append second [])
  half_full size (first ∷ second ∷ third ∷ rest) spread has =
      let parts = first ∷ second ∷ third ∷ rest in
      let sizes = size_at parts in
      let m = length rest in
      let last : suc (suc (suc m)) - 1 ≡ suc (suc m) = omega arith in
      let last_has : 0 < sizes (suc (suc m)) = subst (λ n. 0 < sizes n) last has in
      let before : suc (suc m) ≡ suc m + 1 = omega arith in
      let some : 0 < sizes 1 =
      some_before size sizes spread (suc m) 1 (subst (λ n. 0 < sizes n) before last_has) in
      let pair : size < length first + length second = spread.filled 0 some in
      let later : IsSpread size (size_at (third ∷ rest)) = record {
        fits = λ k. spread.fits (suc (suc k));
        filled = λ k. let next : suc (suc k) + 1 ≡ suc (suc (k + 1)) = omega arith in
            subst (λ n. 0 < sizes n → size < sizes (suc (suc k)) + sizes n) next
            (spread.filled (suc (suc k)));
      } in
      let end : m ≡ suc m - 1 = omega arith in
      let rest_full : suc m / 2 * size ≤ length (joined (third ∷ rest)) =
      half_full size (third ∷ rest) later
      (subst (λ n. 0 < size_at (third ∷ rest) n) end last_has) in
      let half : suc (suc (suc m)) / 2 ≡ suc m / 2 + 1 = omega arith in
      rw half (omega (
        arith,
        pair,
        rest_full,
        length-append first (second ++ joined (third ∷ rest)),
        length-append second (joined (third ∷ rest)),
      ))

  pub last_is_spare : (size : ℕ) (parts : List (List X)) → IsSpread size (size_at parts)
      → length (joined parts) < length parts / 2 * size
      → size_at parts (length parts - 1) ≡ 0
  last_is_spare size parts spread room = elim (cases_lt 0 (size_at parts (length parts - 1))) [
    | inl some ↦ absurd (omega (arith, half_full size parts spread some, room))
    | inr none ↦ omega arith
  ]

  -- ---- the loop that counts

  pub record IsCounted (begin used : ℕ) (starts : List ℕ) (parts : List (List X)) : Type 0 where
    pub sum : begin ≡ length (joined (take used parts))
    pub begun : HasStarts used starts parts

  pub counted_step : (begin k n : ℕ) (starts : List ℕ) (parts : List (List X))
      → IsCounted begin k starts parts → k < length parts → n ≡ size_at parts k → 0 < n
      → IsCounted (begin + n) (k + 1) (set starts k begin) parts
  counted_step begin k n starts parts counted within is has =
      let there : k < length starts = omega (arith, within, counted.begun.each_has) in
      record {
        sum = omega (arith, is, counted.sum, counted_more parts k within);
        begun = record {
          each_has = length-set starts k begin ∙ counted.begun.each_has;
          within = omega arith;
          first = first_kept k begin starts counted.begun.first there
              (λ zero. counted.sum ∙ ap (λ n. length (joined (take n parts))) zero);
          some = below_more (λ j. 0 < size_at parts j) k counted.begun.some
              (omega (arith, is, has));
          counts = below_more
              (λ j. get_or (set starts k begin) j 0 ≡ length (joined (take j parts))) k
              (λ j sooner. get_or-set_other starts k j begin 0 (omega arith)
              ∙ counted.begun.counts j sooner)
              (get_or-set_same starts k begin 0 there ∙ counted.sum);
        };
      }
