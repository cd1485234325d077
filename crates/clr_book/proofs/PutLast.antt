-- A row that is put above all others comes last.
use Rattle.std.proofs.Common.{◌≡◌, ◌∙◌, ◌<◌, ◌+◌, ℕ, zero, suc, true, not, List, [], ◌∷◌, ◌++◌, length, take, get_or, refl, sym, ap, arith, map}
use Rattle.std.specs.Cmp.{IsTotalOrder}
use Rattle.std.specs.Ordering.{is_gt, is_lt}
use Rattle.std.specs.declared.cmp.Ordering.{Ordering}
use Rattle.std.specs.declared.cmp.Ordering.TheVariants.{Less, Equal, Greater}
use Rattle.std.specs.List.{list_all}
use Rattle.std.proofs.lemmas.Bool.{and_from}
use Rattle.std.proofs.lemmas.List.{take_more}
use Rattle.clr_shelf.proofs.KeyOrder.{in_key_order-first, in_key_order-rest}
use Rattle.clr_shelf.proofs.Lists.{filter-none, filter-same, list_all-contains, list_all-weaker}
use Rattle.clr_shelf.specs.Rows.{in_key_order, with_row}

lower_is_not_higher : (o : Ordering) → is_lt o ≡ true → not (is_gt o) ≡ true
lower_is_not_higher Less is = refl
lower_is_not_higher Equal is = refl
lower_is_not_higher Greater is = cc is

module _ {Key Row : Type 0} (compare : Key → Key → Ordering) (key_of : Row → Key) (order : IsTotalOrder compare) where
  -- the rows before one are below it
  below_taken : (rows : List Row) (n : ℕ) (row : Row) → in_key_order compare key_of rows ≡ true → n < length rows → row ≡ get_or rows n row
      → list_all (λ other. is_lt (compare (key_of other) (key_of row))) (take n rows) ≡ true
  below_taken [] n row ordered within is = absurd (omega arith)
  below_taken (first ∷ rows) zero row ordered within is = refl
  below_taken (first ∷ rows) (suc n) row ordered within is =
      let inside : n < length rows = omega arith in
      and_from (is_lt (compare (key_of first) (key_of row))) (list_all (λ other. is_lt (compare (key_of other) (key_of row))) (take n rows))
      (list_all-contains (λ next. is_lt (compare (key_of first) (key_of next))) rows row (in_key_order-first compare key_of order first rows ordered) (n, inside, sym is))
      (below_taken rows n row (in_key_order-rest compare key_of order first rows ordered) inside is)

  pub put_last : (rows : List Row) (n : ℕ) (row : Row) → in_key_order compare key_of rows ≡ true → n < length rows → row ≡ get_or rows n row
      → with_row compare key_of row (take n rows) ≡ take (n + 1) rows
  unfolding with_row
  put_last rows n row ordered within is =
      let below = below_taken rows n row ordered within is in
      let lower = filter-same (λ (other : Row). is_lt (compare (key_of other) (key_of row))) (take n rows) below in
      let higher = filter-none (λ (other : Row). is_gt (compare (key_of other) (key_of row))) (take n rows)
      (list_all-weaker (λ (other : Row). is_lt (compare (key_of other) (key_of row))) (λ other. not (is_gt (compare (key_of other) (key_of row))))
      (λ other is. lower_is_not_higher (compare (key_of other) (key_of row)) is) (take n rows) below) in
      (λ i. lower i ++ row ∷ higher i) ∙ ap (λ x. take n rows ++ x ∷ []) is ∙ sym (take_more rows n row within)

-- an element of what was mapped
pub get_or-mapped : {X Y : Type 0} (f : X → Y) (xs : List X) (n : ℕ) (x : X) → n < length xs → x ≡ get_or xs n x → f x ≡ get_or (map f xs) n (f x)
get_or-mapped f [] n x within is = absurd (omega arith)
get_or-mapped f (y ∷ xs) zero x within is = ap f is
get_or-mapped f (y ∷ xs) (suc n) x within is = get_or-mapped f xs n x (omega arith) is
