-- Where names are in a list: in the order of names, and where one comes twice.
use Rattle.std.proofs.Common.{Bor, Option, ◌≡◌, ◌∙◌, ℕ, zero, suc, ◌+◌, ◌<◌, ◌≤◌, Bool, true, false, cond, not, ◌||◌, Some, None, List, [], ◌∷◌, ◌⊎◌, inl, inr, length, get_or, take, map, position}
use Rattle.std.proofs.Common.{refl, sym, ap, arith, Result, Ok, Err, All, is_some, option_copied, below_more, Ordering, Less, Equal, Greater}
use Rattle.std.specs.Result.{result_ok}
use Rattle.std.specs.Slice.{IsItemAt}
use Rattle.std.proofs.lemmas.Bool.{false≢true, both_ways, cases_lt, false_from_ne_true, le-ltb, lt-ltb, or_parts}
use Rattle.std.proofs.lemmas.List.Quantifiers.{position-Some}
use Rattle.clr_net.specs.Index.{place_in}
use Rattle.std.proofs.Math.Bool.{or-true, or-false, not-not}
use Rattle.std.specs.Ordering.{is_eq, is_lt, ordering_reverse}
use Rattle.std.specs.List.{IsAllAdjacentAnswer, IsDistinct, find, list_all, list_any, position_or_len, range_with_len}
use Rattle.std.specs.List.Sorted.{IsPermutation, IsStrictlySortedBy, IsSortedBy, IsSortedByKey, IsBinarySearchResult, IsSearchInRange, IsPartitionPoint}
use Rattle.std.specs.Cmp.Lexicographic.{same_text, texts_ties}
use Rattle.std.proofs.lemmas.Cmp.{nat_list_cmp_total, nat_list_eq_equiv}
use Rattle.std.proofs.lemmas.List.{get_or-map, get_or-take, get_or_default, length-map, length-take-le}
use Rattle.std.proofs.lemmas.List.Sums.{AllPass-from_list_all, list_all-from_AllPass, position_or_len_is}
use Rattle.std.proofs.lemmas.List.Sorted.{All-permutation, IsPermutation-map, IsPermutation-sym, searchable_from_sorted}
use Rattle.std.proofs.lemmas.List.FromFn.{get_or-range_with_len, length-range_with_len}
use Rattle.std.proofs.lemmas.List.Folds.{list_any_at, list_any_more, list_any_none}
use Rattle.std.specs.BTreeSet.{BTreeSet, Updates, contains}
use Rattle.std.proofs.lemmas.Map.Keys.{IsDistinct-IsPermutation, IsDistinct-from_apart, Less-from_sorted, apart_from_distinct, sorted_from_all_adjacent}
use Rattle.clr_net.specs.Prelude.{same_name, name_cmp}
use Rattle.clr_net.specs.Names.{has_name, is_repeat, repeat_place}

-- the first element that passes
pub position_found : {X : Type 0} (p : X → Bool) (xs : List X) (i : ℕ) (d : X) → i < length xs → ((k : ℕ) → k < i → p (get_or xs k d) ≡ false) → p (get_or xs i d) ≡ true → position p xs ≡ Some i
position_found p xs i d inside before here =
    let e = position_or_len_is p xs i d (omega arith) before (λ _. here) in
    rw (e, lt-ltb i (length xs) inside) refl

-- no element passes
pub position_none : {X : Type 0} (p : X → Bool) (xs : List X) (d : X) → ((k : ℕ) → k < length xs → p (get_or xs k d) ≡ false) → position p xs ≡ None
position_none p xs d fails =
    let e = position_or_len_is p xs (length xs) d (omega arith) fails (λ h. absurd (omega arith)) in
    rw (e, le-ltb (length xs) (length xs) (omega arith)) refl

-- the first place that passes, where one does
pub place_inside : {X : Type 0} (p : X → Bool) (xs : List X) → list_any p xs ≡ true → position_or_len p xs < length xs
place_inside p [] e = cc e
place_inside p (x ∷ xs) e = at (p x) refl (place_inside p xs)
  where
    at : (b : Bool) → p x ≡ b → (list_any p xs ≡ true → position_or_len p xs < length xs) → position_or_len p (x ∷ xs) < length (x ∷ xs)
    at true here more = rw here (omega arith)
    at false here more = rw here (let rest = more (rw here at e) in omega arith)

-- a name that is there has a place
pub place_of_name : (names : List (List ℕ)) (name : List ℕ) → has_name names name ≡ true → position (same_name name) names ≡ Some (place_in names name)
place_of_name names name e = rw (lt-ltb _ _ (place_inside (same_name name) names e)) refl

-- past all places, where no element passes
place_past : {X : Type 0} (p : X → Bool) (xs : List X) → list_any p xs ≡ false → position_or_len p xs ≡ length xs
place_past p [] e = refl
place_past p (x ∷ xs) e =
    let (here, more) = or_parts (p x) (list_any p xs) e in
    rw (here, place_past p xs more) (omega arith)

-- there is a place exactly where an element passes
pub is_some-position : {X : Type 0} (p : X → Bool) (xs : List X) → is_some (position p xs) ≡ list_any p xs
is_some-position p xs = at (list_any p xs) refl
  where
    at : (b : Bool) → list_any p xs ≡ b → is_some (position p xs) ≡ list_any p xs
    at true e = rw (e, lt-ltb _ _ (place_inside p xs e)) refl
    at false e = rw (e, place_past p xs e, le-ltb (length xs) (length xs) (omega arith)) refl

-- whether two names are the same, from how they compare
pub same_from_cmp : (m n : List ℕ) (o : Ordering) → name_cmp m n ≡ o → same_name n m ≡ is_eq (ordering_reverse o)
same_from_cmp m n o e = texts_ties n m ∙ ap is_eq (nat_list_cmp_total.antisymm n m ∙ ap ordering_reverse e)

-- names that compare as equal are one
pub one_from_cmp : (m n : List ℕ) → name_cmp m n ≡ Equal → n ≡ m
one_from_cmp m n e = same_text n m (sym (same_from_cmp m n Equal e))

-- the order of rows in the order of their names, as a search asks for it
pub rows_in_order : {X : Type 0} (name_of : X → List ℕ) (rows : List X) → IsStrictlySortedBy name_cmp (map name_of rows) → IsSortedBy (λ a b. is_lt (name_cmp (name_of a) (name_of b))) rows
rows_in_order name_of rows rises k d low high =
    let size = length-map rows name_of in
    let here : name_cmp (name_of (get_or rows k d)) (name_of (get_or rows (k + 1) d)) ≡ Less =
    rw (sym (get_or-map name_of rows k d [] (omega arith)), sym (get_or-map name_of rows (k + 1) d [] (omega arith)))
    (Less-from_sorted name_cmp (map name_of rows) k (k + 1) [] rises (omega arith) (omega arith)) in
    ap is_lt (nat_list_cmp_total.antisymm (name_of (get_or rows (k + 1) d)) (name_of (get_or rows k d)) ∙ ap ordering_reverse here)

-- the place of a name that compares as equal
found_at : (names : List (List ℕ)) (n : List ℕ) (i : ℕ) → IsStrictlySortedBy name_cmp names → i < length names → name_cmp (get_or names i []) n ≡ Equal → Some i ≡ position (same_name n) names
found_at names n i rises inside here =
    sym (position_found (same_name n) names i [] inside before (same_from_cmp (get_or names i []) n Equal here))
  where
    before : (k : ℕ) → k < i → same_name n (get_or names k []) ≡ false
    before k lower =
        let less : name_cmp (get_or names k []) n ≡ Less = rw (one_from_cmp (get_or names i []) n here) (Less-from_sorted name_cmp names k i [] rises lower inside) in
        same_from_cmp (get_or names k []) n Less less

-- what a search by name finds is the place of the name
pub place_from_search : {X : Type 0} (name_of : X → List ℕ) (rows : List X) (n : List ℕ) (r : Result ℕ ℕ) → IsStrictlySortedBy name_cmp (map name_of rows)
    → IsSearchInRange r (length rows) → IsBinarySearchResult (λ x. name_cmp (name_of x) n) rows r → result_ok r ≡ position (same_name n) (map name_of rows)
place_from_search name_of [] n (Ok i) rises inside found = absurd (omega arith)
place_from_search name_of (x ∷ rows) n (Ok i) rises inside found =
    let size = length-map (x ∷ rows) name_of in
    found_at (map name_of (x ∷ rows)) n i rises (omega arith) (rw (get_or-map name_of (x ∷ rows) i x [] inside) (found x))
place_from_search name_of [] n (Err i) rises inside found = refl
place_from_search {X} name_of (x ∷ rows) n (Err i) rises inside found =
    sym (position_none (same_name n) (map name_of (x ∷ rows)) [] (λ k lower. apart k lower (cases_lt k i)))
  where
    parts : IsPartitionPoint (λ y. name_cmp (name_of y) n ≡ Less) (λ y. name_cmp (name_of y) n ≡ Greater) (x ∷ rows) i
    parts = found (searchable_from_sorted nat_list_cmp_total name_of (x ∷ rows) n (rows_in_order name_of (x ∷ rows) rises))

    apart : (k : ℕ) → k < length (map name_of (x ∷ rows)) → (k < i) ⊎ (i ≤ k) → same_name n (get_or (map name_of (x ∷ rows)) k []) ≡ false
    apart k lower (inl before) =
        let size = length-map (x ∷ rows) name_of in
        same_from_cmp (get_or (map name_of (x ∷ rows)) k []) n Less (rw (get_or-map name_of (x ∷ rows) k x [] (omega arith)) (parts.0 k x (omega arith) before))
    apart k lower (inr after) =
        let size = length-map (x ∷ rows) name_of in
        same_from_cmp (get_or (map name_of (x ∷ rows)) k []) n Greater (rw (get_or-map name_of (x ∷ rows) k x [] (omega arith)) (parts.1 k x after (omega arith)))

-- the place at a place of a range from 0
at_range : (n k : ℕ) → k < n → get_or (range_with_len 0 n) k 0 ≡ k
at_range n k lower = omega (arith, get_or-range_with_len 0 n k 0 lower)

-- the first repeat
pub repeat_found : (names : List (List ℕ)) (i : ℕ) → i < length names → ((k : ℕ) → k < i → is_repeat names k ≡ false) → is_repeat names i ≡ true → Some i ≡ repeat_place names
repeat_found names i inside before here =
    let size = length-range_with_len 0 (length names) in
    sym (position_found (is_repeat names) (range_with_len 0 (length names)) i 0 (omega arith)
    (λ k lower. rw (at_range (length names) k (omega arith)) (before k lower))
    (rw (at_range (length names) i inside) here))

-- no repeat
pub repeat_none : (names : List (List ℕ)) → ((k : ℕ) → k < length names → is_repeat names k ≡ false) → None ≡ repeat_place names
repeat_none names fails =
    let size = length-range_with_len 0 (length names) in
    sym (position_none (is_repeat names) (range_with_len 0 (length names)) 0 (λ k lower. rw (at_range (length names) k (omega arith)) (fails k (omega arith))))

-- the name of the row at a place
pub name_at : {X : Type 0} (name_of : X → List ℕ) (rows : List X) (i : ℕ) (x : X) (name : List ℕ) → i < length rows → x ≡ get_or rows i x → name ≡ name_of x → get_or (map name_of rows) i [] ≡ name
name_at name_of rows i x name inside is named = get_or-map name_of rows i x [] inside ∙ ap name_of (sym is) ∙ sym named

-- one more name that was seen
pub seen_more : (old new : BTreeSet (List ℕ)) (names : List (List ℕ)) (i : ℕ) (name : List ℕ) → i < length names → get_or names i [] ≡ name
    → ((q : List ℕ) → contains name_cmp old q ≡ has_name (take i names) q) → Updates name_cmp old new name true
    → (q : List ℕ) → contains name_cmp new q ≡ has_name (take (i + 1) names) q
seen_more old new names i name inside is seen updates q =
    let more = list_any_more (same_name q) names i [] inside in
    let tie : same_name q (get_or names i []) ≡ is_eq (name_cmp name q) = rw is (nat_list_eq_equiv.symm q name ∙ texts_ties name q) in
    updates.0 q ∙ or_as_cond (is_eq (name_cmp name q)) (contains name_cmp old q) ∙ rw (more, tie, seen q) refl
  where
    or_as_cond : (b c : Bool) → cond b true c ≡ (c || b)
    or_as_cond true c = sym (or-true c)
    or_as_cond false c = sym (or-false c)

-- a name that was seen is a repeat
pub repeat_seen : (names : List (List ℕ)) (i : ℕ) (name : List ℕ) (seen : BTreeSet (List ℕ)) (added : Bool) → get_or names i [] ≡ name
    → ((q : List ℕ) → contains name_cmp seen q ≡ has_name (take i names) q) → added ≡ not (contains name_cmp seen name) → is_repeat names i ≡ not added
repeat_seen names i name seen added is same e = rw (is, e, sym (same name)) (sym (not-not (contains name_cmp seen name)))

-- one more name that is no repeat
pub unrepeated_more : (names : List (List ℕ)) (i : ℕ) → ((k : ℕ) → k < i → is_repeat names k ≡ false) → is_repeat names i ≡ false → (k : ℕ) → k < i + 1 → is_repeat names k ≡ false
unrepeated_more names i before here = below_more (λ k. is_repeat names k ≡ false) i before here

-- names no one of which comes twice
pub distinct_from_unrepeated : (names : List (List ℕ)) → ((k : ℕ) → k < length names → is_repeat names k ≡ false) → IsDistinct same_name names
distinct_from_unrepeated names once = IsDistinct-from_apart same_name names apart
  where
    apart : (i j : ℕ) (d : List ℕ) → i < j → j < length names → same_name (get_or names i d) (get_or names j d) ≡ false
    apart i j d before inside = false_from_ne_true _ (λ same.
        let size = length-take-le j names (omega arith) in
        let back : same_name (get_or names j []) (get_or (take j names) i d) ≡ true =
        rw (get_or-take j names i d before, get_or_default names j [] d inside) (nat_list_eq_equiv.symm (get_or names j d) (get_or names i d) ∙ same) in
        both_ways _ (once j inside) (list_any_at (same_name (get_or names j [])) (take j names) i d (omega arith) back))

-- rows in the order of names no one of which comes twice
pub rising_from_sorted : {X : Type 0} (name_of : X → List ℕ) (rows : List X) → IsSortedByKey name_of name_cmp rows → IsDistinct same_name (map name_of rows) → IsStrictlySortedBy name_cmp (map name_of rows)
rising_from_sorted name_of [] sorted once = sorted_from_all_adjacent nat_list_cmp_total [] [] (λ k inside. absurd (omega arith))
rising_from_sorted {X} name_of (x ∷ rows) sorted once = sorted_from_all_adjacent nat_list_cmp_total (map name_of (x ∷ rows)) [] rises
  where
    by_order : (m n : List ℕ) (o : Ordering) → name_cmp n m ≡ o → is_lt o ≡ false → same_name m n ≡ false → name_cmp m n ≡ Less
    by_order m n Less e not_less apart = cc not_less
    by_order m n Equal e not_less apart = absurd (both_ways _ apart (same_from_cmp n m Equal e))
    by_order m n Greater e not_less apart = nat_list_cmp_total.antisymm m n ∙ ap ordering_reverse e

    rises : (k : ℕ) → k + 1 < length (map name_of (x ∷ rows)) → name_cmp (get_or (map name_of (x ∷ rows)) k []) (get_or (map name_of (x ∷ rows)) (k + 1) []) ≡ Less
    rises k inside =
        let size = length-map (x ∷ rows) name_of in
        let here = get_or-map name_of (x ∷ rows) k x [] (omega arith) in
        let next = get_or-map name_of (x ∷ rows) (k + 1) x [] (omega arith) in
        by_order (get_or (map name_of (x ∷ rows)) k []) (get_or (map name_of (x ∷ rows)) (k + 1) []) (name_cmp (get_or (map name_of (x ∷ rows)) (k + 1) []) (get_or (map name_of (x ∷ rows)) k [])) refl
        (rw (here, next) (sorted k x (omega arith) (omega arith)))
        (apart_from_distinct same_name (map name_of (x ∷ rows)) k (k + 1) [] once (omega arith) inside)

-- a name that comes before another
less_from_true : (o : Ordering) → true ≡ is_lt o → o ≡ Less
less_from_true Less e = refl
less_from_true Equal e = absurd (false≢true (sym e))
less_from_true Greater e = absurd (false≢true (sym e))

-- rows each of whose names comes before the next one's
pub rising_from_adjacent : {X : Type 0} (name_of : X → List ℕ) (rows : List X) (r : Bool) → r ≡ true
    → IsAllAdjacentAnswer (λ x y b. b ≡ is_lt (name_cmp (name_of x) (name_of y))) rows r → IsStrictlySortedBy name_cmp (map name_of rows)
rising_from_adjacent {X} name_of rows false is answer = absurd (false≢true is)
rising_from_adjacent {X} name_of [] true is answer = sorted_from_all_adjacent nat_list_cmp_total [] [] (λ k inside. absurd (omega arith))
rising_from_adjacent {X} name_of (x ∷ rows) true is answer = sorted_from_all_adjacent nat_list_cmp_total (map name_of (x ∷ rows)) [] rises
  where
    rises : (k : ℕ) → k + 1 < length (map name_of (x ∷ rows)) → name_cmp (get_or (map name_of (x ∷ rows)) k []) (get_or (map name_of (x ∷ rows)) (k + 1) []) ≡ Less
    rises k inside =
        let size = length-map (x ∷ rows) name_of in
        rw (get_or-map name_of (x ∷ rows) k x [] (omega arith), get_or-map name_of (x ∷ rows) (k + 1) x [] (omega arith))
        (less_from_true _ (answer k x (omega arith)))

-- names that rise are distinct
pub distinct_from_rising : (names : List (List ℕ)) → IsStrictlySortedBy name_cmp names → IsDistinct same_name names
distinct_from_rising names rises = IsDistinct-from_apart same_name names
    (λ i j d before inside. texts_ties (get_or names i d) (get_or names j d) ∙ ap is_eq (Less-from_sorted name_cmp names i j d rises before inside))

-- where the names of the same rows in another order rise, no name comes twice
pub once_from_rising : {X : Type 0} (name_of : X → List ℕ) (rows ordered : List X) → IsPermutation rows ordered
    → IsStrictlySortedBy name_cmp (map name_of ordered) → IsDistinct same_name (map name_of rows)
once_from_rising name_of rows ordered moved rises =
    IsDistinct-IsPermutation same_name nat_list_eq_equiv.symm (map name_of ordered) (map name_of rows)
    (IsPermutation-sym (map name_of rows) (map name_of ordered) (IsPermutation-map name_of rows ordered moved))
    (distinct_from_rising (map name_of ordered) rises)

-- the first row that passes
find_first : {X : Type 0} (p : X → Bool) (rows : List X) (i : ℕ) (x : X) → i < length rows → x ≡ get_or rows i x → p x ≡ true → ((k : ℕ) → k < i → p (get_or rows k x) ≡ false) → Some x ≡ find p rows
find_first p [] i x inside is here before = absurd (omega arith)
find_first p (r ∷ rows) zero x inside is here before = rw (← is, here) refl
find_first p (r ∷ rows) (suc i) x inside is here before = rw (before 0 (omega arith)) (find_first p rows i x (omega arith) is here (λ k lower. before (suc k) (omega arith)))

-- the row with a name
pub find_at : {X : Type 0} (name_of : X → List ℕ) (rows : List X) (n : List ℕ) (i : ℕ) (x : X) → position (same_name n) (map name_of rows) ≡ Some i → x ≡ get_or rows i x → Some x ≡ find (λ row. same_name n (name_of row)) rows
find_at name_of rows n i x at is =
    let size = length-map rows name_of in
    let (inside, here, before) = position-Some (same_name n) (map name_of rows) i [] at in
    find_first (λ row. same_name n (name_of row)) rows i x (omega arith) is
    (rw (get_or-map name_of rows i x [] (omega arith), ← is) at here)
    (λ k lower. rw (get_or-map name_of rows k x [] (omega arith)) at (before k lower))

pub find_none : {X : Type 0} (name_of : X → List ℕ) (rows : List X) (n : List ℕ) → position (same_name n) (map name_of rows) ≡ None → None ≡ find (λ row. same_name n (name_of row)) rows
find_none {X} name_of rows n none = absent rows (sym (is_some-position (same_name n) (map name_of rows)) ∙ ap is_some none)
  where
    absent : (rows : List X) → list_any (same_name n) (map name_of rows) ≡ false → None ≡ find (λ row. same_name n (name_of row)) rows
    absent [] e = refl
    absent (r ∷ rest) e =
        let (here, more) = or_parts (same_name n (name_of r)) (list_any (same_name n) (map name_of rest)) e in
        rw here (absent rest more)

-- the same, as a slice's `get` gives it
pub find_got : {X : Type 0} (name_of : X → List ℕ) (rows : List X) (n : List ℕ) (i : ℕ) (r : Option (Bor X)) → position (same_name n) (map name_of rows) ≡ Some i → IsItemAt rows i r → option_copied r ≡ find (λ row. same_name n (name_of row)) rows
find_got name_of rows n i (Some x) at got = find_at name_of rows n i x.now at got.1
find_got name_of rows n i None at got =
    let size = length-map rows name_of in
    let inside = (position-Some (same_name n) (map name_of rows) i [] at).0 in
    absurd (false≢true (got.0 ∙ lt-ltb i (length rows) (omega arith)))

-- where no place is found, each element fails
pub all_fail : {X : Type 0} (p : X → Bool) (xs : List X) → position p xs ≡ None → All (λ x. p x ≡ false) xs
all_fail p xs none k d inside =
    let fails : list_any p xs ≡ false = sym (is_some-position p xs) ∙ ap is_some none in
    false_from_ne_true _ (λ e. both_ways _ fails (list_any_at p xs k d inside e))

-- among distinct names none is a repeat
unrepeated_from_distinct : (names : List (List ℕ)) → IsDistinct same_name names → (k : ℕ) → k < length names → is_repeat names k ≡ false
unrepeated_from_distinct names once k inside = list_any_none (same_name (get_or names k [])) (take k names) apart
  where
    apart : (i : ℕ) (d : List ℕ) → i < length (take k names) → same_name (get_or names k []) (get_or (take k names) i d) ≡ false
    apart i d lower =
        let size = length-take-le k names (omega arith) in
        rw (get_or-take k names i d (omega arith), get_or_default names i d [] (omega arith))
        (nat_list_eq_equiv.symm (get_or names k []) (get_or names i []) ∙ apart_from_distinct same_name names i k [] once (omega arith) inside)

-- so no place is a repeat
pub no_repeat : (names : List (List ℕ)) → IsDistinct same_name names → repeat_place names ≡ None
no_repeat names once = sym (repeat_none names (unrepeated_from_distinct names once))

-- where each element fails, no place is found
pub all_none : {X : Type 0} (p : X → Bool) (xs : List X) → All (λ x. p x ≡ false) xs → position p xs ≡ None
all_none p [] fails = refl
all_none p (x ∷ xs) fails = position_none p (x ∷ xs) x (λ k inside. fails k x inside)

-- where each element passes, no element is found that does not
pub none_fail : {X : Type 0} (p : X → Bool) (xs : List X) → list_all p xs ≡ true → position (λ x. not (p x)) xs ≡ None
none_fail p xs all = all_none (λ x. not (p x)) xs (λ k d inside. ap not (AllPass-from_list_all p xs all k d inside))

passes_permuted : {X : Type 0} (p : X → Bool) (xs ys : List X) → IsPermutation xs ys → list_all p xs ≡ true → list_all p ys ≡ true
passes_permuted p xs ys moved all =
    list_all-from_AllPass p ys (All-permutation (λ x. p x ≡ true) xs ys moved (AllPass-from_list_all p xs all))

-- whether all elements pass does not hang on their order
pub list_all-permuted : {X : Type 0} (p : X → Bool) (xs ys : List X) → IsPermutation xs ys → list_all p xs ≡ list_all p ys
list_all-permuted p xs ys moved = by (list_all p xs) refl (list_all p ys) refl
  where
    by : (b : Bool) → list_all p xs ≡ b → (c : Bool) → list_all p ys ≡ c → list_all p xs ≡ list_all p ys
    by true all c there = all ∙ sym (passes_permuted p xs ys moved all)
    by false some true there = absurd (both_ways _ some (passes_permuted p ys xs (IsPermutation-sym xs ys moved) there))
    by false some false there = some ∙ sym there
