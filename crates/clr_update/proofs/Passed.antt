-- Rows that go from a list and rows that come to it: what is left in the order of names.
use Rattle.std.proofs.Common.{◌≡◌, ◌∙◌, ◌⊎◌, inl, inr, ⊎_elim, ℕ, ◌<◌, ◌≤◌, ◌+◌, Bool, true, false, not, List, [], ◌∷◌, ◌++◌, filter, map, length, Contains, refl, sym, ap, subst, arith, is_eq, is_lt, is_gt, Less, Ordering, IsPermutation, length-append}
use Rattle.std.specs.Cmp.Lexicographic.{texts_ties}
use Rattle.std.specs.List.{AllByRecursion}
use Rattle.std.specs.List.Sorted.{IsStrictlySortedBy}
use Rattle.std.proofs.lemmas.List.Sorted.{Contains-permutation, IsPermutation-filter_both, IsPermutation-sym}
use Rattle.clr_shelf.specs.Rows.{with_row}
use Rattle.clr_shelf.proofs.KeyOrder.{in_key_order-with_row}
use Rattle.clr_shelf.proofs.Keys.{less}
use Rattle.clr_shelf.proofs.Members.{Contains-with_other, Contains-with_row}
use Rattle.clr_update.proofs.Common.{Contains-cases, Contains-filter, Contains-here, Contains-later, and_parts, any_from, both_ways, in_key_order, in_key_order-filter, in_key_order-first, in_key_order-rest}
use Rattle.clr_update.proofs.Common.{kept_there, lacking, list_all, list_any, member-with_row, name_cmp, nat_list_cmp_total, one_name, same_itself, same_name}
use Rattle.clr_update.proofs.Rows.{from_in, lacking_apart, no_member, one_row, same_rows, there_or_lacking}
use Rattle.clr_update.specs.Delta.{in_name_order, passed}

-- names that tie are one
pub tied_names : (m n : List ℕ) → is_eq (name_cmp m n) ≡ true → m ≡ n
tied_names m n ties = one_name m n (texts_ties m n ∙ ties)

pub untied_apart : (m n : List ℕ) → is_eq (name_cmp m n) ≡ false → m ≡ n → ⊥
untied_apart m n differs same = both_ways (is_eq (name_cmp m n)) differs
    (sym (texts_ties m n) ∙ ap (same_name m) (sym same) ∙ same_itself m)

-- a filter that no row passes leaves none
pub none_pass : {X : Type 0} (q : X → Bool) (xs : List X) → ((x : X) → Contains xs x → q x ≡ true → ⊥) → filter q xs ≡ []
none_pass {X} q xs fails = at (filter q xs) refl
  where
    at : (kept : List X) → filter q xs ≡ kept → kept ≡ []
    at [] is = refl
    at (x ∷ rest) is =
        let both = kept_there q xs x (subst (λ (l : List X). Contains l x) (sym is) (Contains-here x rest)) in
        absurd (fails x both.0 both.1)

module _ {Row : Type 0} (name_of : Row → List ℕ) where
  -- ---- in the order of names

  pub ordered : (rows : List Row) → in_key_order name_cmp name_of (in_name_order name_of rows) ≡ true
  unfolding in_name_order
  ordered [] = refl
  ordered (row ∷ rows) = in_key_order-with_row name_cmp name_of nat_list_cmp_total row (in_name_order name_of rows) (ordered rows)

  pub from_ordered : (rows : List Row) (x : Row) → Contains (in_name_order name_of rows) x → Contains rows x
  unfolding in_name_order
  from_ordered [] x there = there
  from_ordered (row ∷ rows) x there = ⊎_elim
      (λ same. subst (λ (y : Row). Contains (row ∷ rows) y) same (Contains-here row rows))
      (λ later. Contains-later row x rows (from_ordered rows x later))
      (member-with_row name_cmp name_of nat_list_cmp_total row x (in_name_order name_of rows) (ordered rows) there)

  -- each name is there
  pub record Named (rows : List Row) (name : List ℕ) : Type 0 where
    pub row : Row
    pub there : Contains rows row
    pub named : name ≡ name_of row

  pub name_ordered : (rows : List Row) (x : Row) → Contains rows x → Named (in_name_order name_of rows) (name_of x)
  unfolding in_name_order
  name_ordered [] x there = absurd (no_member x there)
  name_ordered (row ∷ rows) x there = at (name_ordered rows x) (Contains-cases row x rows there)
    where
      first : Contains (with_row name_cmp name_of row (in_name_order name_of rows)) row
      first = Contains-with_row name_cmp name_of nat_list_cmp_total row (in_name_order name_of rows)

      later : (it : Named (in_name_order name_of rows) (name_of x)) → (b : Bool) → is_eq (name_cmp (name_of row) (name_of it.row)) ≡ b
          → Named (with_row name_cmp name_of row (in_name_order name_of rows)) (name_of x)
      later it true ties = record { row = row; there = first; named = it.named ∙ sym (tied_names (name_of row) (name_of it.row) ties) }
      later it false differs = record {
        row = it.row;
        there = Contains-with_other name_cmp name_of nat_list_cmp_total row it.row (in_name_order name_of rows) (ordered rows) differs it.there;
        named = it.named;
      }

      at : (Contains rows x → Named (in_name_order name_of rows) (name_of x)) → (row ≡ x) ⊎ Contains rows x → Named (with_row name_cmp name_of row (in_name_order name_of rows)) (name_of x)
      at again (inl same) = record { row = row; there = first; named = ap name_of (sym same) }
      at again (inr more) = let it = again more in later it (is_eq (name_cmp (name_of row) (name_of it.row))) refl

  -- where rows of one name are one row, each row is there
  pub there_ordered : (rows : List Row) → ((x y : Row) → Contains rows x → Contains rows y → name_of x ≡ name_of y → x ≡ y)
      → (x : Row) → Contains rows x → Contains (in_name_order name_of rows) x
  there_ordered rows one x there =
      let it = name_ordered rows x there in
      subst (λ (y : Row). Contains (in_name_order name_of rows) y) (sym (one x it.row there (from_ordered rows it.row it.there) it.named)) it.there

  -- a list in the order of names is that of any other order of its rows
  pub ordered_is : (rows sorted : List Row) → IsPermutation rows sorted → in_key_order name_cmp name_of sorted ≡ true → in_name_order name_of rows ≡ sorted
  ordered_is rows sorted moved rises =
      let back = IsPermutation-sym rows sorted moved in
      let one : (x y : Row) → Contains rows x → Contains rows y → name_of x ≡ name_of y → x ≡ y =
      λ x y x_there y_there same. one_row name_of sorted rises x y (Contains-permutation rows sorted x moved x_there) (Contains-permutation rows sorted y moved y_there) same in
      same_rows name_of (in_name_order name_of rows) sorted (ordered rows) rises
      (λ x there. Contains-permutation rows sorted x moved (from_ordered rows x there))
      (λ x there. there_ordered rows one x (Contains-permutation sorted rows x back there))

  -- keys in order rise
  all_less : (row : Row) (rest : List Row) → list_all (λ next. is_lt (name_cmp (name_of row) (name_of next))) rest ≡ true
      → AllByRecursion (λ key. name_cmp (name_of row) key ≡ Less) (map name_of rest)
  all_less row [] all = tt
  all_less row (next ∷ rest) all =
      let both = and_parts (is_lt (name_cmp (name_of row) (name_of next))) (list_all (λ later. is_lt (name_cmp (name_of row) (name_of later))) rest) all in
      (less (name_cmp (name_of row) (name_of next)) both.0, all_less row rest both.1)

  pub rising : (rows : List Row) → in_key_order name_cmp name_of rows ≡ true → IsStrictlySortedBy name_cmp (map name_of rows)
  unfolding IsStrictlySortedBy
  rising [] rises = tt
  rising (row ∷ rows) rises = (all_less row rows (in_key_order-first name_cmp name_of nat_list_cmp_total row rows rises), rising rows (in_key_order-rest name_cmp name_of nat_list_cmp_total row rows rises))

  -- they are not more, and some where there were some
  parted : (key : List ℕ) (rows : List Row) → length (filter (λ (other : Row). is_lt (name_cmp (name_of other) key)) rows) + length (filter (λ (other : Row). is_gt (name_cmp (name_of other) key)) rows) ≤ length rows
  parted key [] = omega arith
  parted key (row ∷ rows) = at (name_cmp (name_of row) key) refl (parted key rows)
    where
      at : (o : Ordering) → name_cmp (name_of row) key ≡ o
          → length (filter (λ (other : Row). is_lt (name_cmp (name_of other) key)) rows) + length (filter (λ (other : Row). is_gt (name_cmp (name_of other) key)) rows) ≤ length rows
          → length (filter (λ (other : Row). is_lt (name_cmp (name_of other) key)) (row ∷ rows)) + length (filter (λ (other : Row). is_gt (name_cmp (name_of other) key)) (row ∷ rows)) ≤ length (row ∷ rows)
      at Less is more = rw is (omega arith)
      at _ is more = rw is (omega arith)

  pub fewer : (rows : List Row) → length (in_name_order name_of rows) ≤ length rows
  unfolding in_name_order with_row
  fewer [] = omega arith
  fewer (row ∷ rows) =
      let rest = in_name_order name_of rows in
      let below = filter (λ (other : Row). is_lt (name_cmp (name_of other) (name_of row))) rest in
      let above = filter (λ (other : Row). is_gt (name_cmp (name_of other) (name_of row))) rest in
      let size = length-append below (row ∷ above) in
      let parts = parted (name_of row) rest in
      let more = fewer rows in
      omega arith

  pub some_left : (rows : List Row) → 0 < length rows → 0 < length (in_name_order name_of rows)
  unfolding in_name_order with_row
  some_left [] some = some
  some_left (row ∷ rows) some =
      let rest = in_name_order name_of rows in
      let below = filter (λ (other : Row). is_lt (name_cmp (name_of other) (name_of row))) rest in
      let above = filter (λ (other : Row). is_gt (name_cmp (name_of other) (name_of row))) rest in
      let size = length-append below (row ∷ above) in
      omega arith

-- ---- from one list to another, both in the order of names

module _ {Row : Type 0} (same : Row → Row → Bool) (exact : (a b : Row) → same a b ≡ true → a ≡ b) (itself : (a : Row) → same a a ≡ true) (name_of : Row → List ℕ) (was is : List Row)
    (was_rises : in_key_order name_cmp name_of was ≡ true) (is_rises : in_key_order name_cmp name_of is ≡ true) where
  -- a row of the later list was there
  abbrev stayed : Row → Bool
  stayed row = list_any (same row) was

  abbrev go : List Row
  go = lacking same is was

  -- what does not go is what stayed
  pub kept_are : lacking same (lacking same is was) was ≡ filter (λ row. list_any (same row) was) is
  kept_are = same_rows name_of (lacking same (lacking same is was) was) (filter stayed is)
      (in_key_order-filter name_cmp name_of nat_list_cmp_total (λ row. not (list_any (same row) (lacking same is was))) was was_rises)
      (in_key_order-filter name_cmp name_of nat_list_cmp_total stayed is is_rises)
      fore back
    where
      fore : (x : Row) → Contains (lacking same go was) x → Contains (filter stayed is) x
      fore x there =
          let before = (kept_there (λ row. not (list_any (same row) go)) was x there).0 in
          ⊎_elim
          (λ now. Contains-filter stayed is x now (any_from (same x) was x before (itself x)))
          (λ goes. absurd (lacking_apart same exact itself go was x there goes))
          (there_or_lacking same exact itself is was x before)

      back : (x : Row) → Contains (filter stayed is) x → Contains (lacking same go was) x
      back x there =
          let both = kept_there stayed is x there in
          ⊎_elim
          (λ goes. absurd (lacking_apart same exact itself is was x goes both.0))
          (λ stays. stays)
          (there_or_lacking same exact itself go was x (from_in same exact itself was x both.1))

  -- with what comes, they are the later list in another order
  pub passed_is : IsPermutation (passed same (lacking same is was) (lacking same was is) was) is
  passed_is = subst (λ (kept : List Row). IsPermutation (kept ++ lacking same was is) is) (sym kept_are)
      (IsPermutation-sym is _ (IsPermutation-filter_both stayed (λ row. not (stayed row)) (λ row. refl) is))

  -- what goes was there
  pub went_there : lacking same was (lacking same is was) ≡ []
  went_there = none_pass (λ row. not (list_any (same row) was)) (lacking same is was)
      (λ x there none. absurd (lacking_apart same exact itself was (lacking same is was) x (Contains-filter (λ row. not (list_any (same row) was)) (lacking same is was) x there none)
      (kept_there (λ row. not (list_any (same row) is)) was x there).0))
