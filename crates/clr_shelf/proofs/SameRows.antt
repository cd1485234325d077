-- When two lists of rows in key order are one list, and edits that may change places.
use Rattle.std.proofs.Common.{◌≡◌, Bool, true, false, cond, List, [], ◌∷◌, Option, Some, None, refl, sym, ◌∙◌, ap, Contains, IsPermutation, is_lt, is_eq, is_gt, Ordering, Less, Equal, Greater}
use Rattle.std.specs.Cmp.{IsTotalOrder}
use Rattle.std.proofs.lemmas.Cmp.{tied_itself}
use Rattle.std.proofs.lemmas.List.Sorted.{Contains-permutation, IsPermutation-sym}
use Rattle.std.proofs.lemmas.Option.{same_Some, none-some}
use Rattle.clr_shelf.specs.Rows.{in_key_order, row_of}
use Rattle.clr_shelf.proofs.Keys.{above_back}
use Rattle.clr_shelf.proofs.Reading.{row_of-tied}
use Rattle.clr_shelf.proofs.KeyOrder.{in_key_order-rest, in_key_order-first}
use Rattle.clr_shelf.proofs.Members.{row_of-member, member-row_of, none_below, none_before}

module _ {Key Row : Type 0} (compare : Key → Key → Ordering) (key_of : Row → Key) (order : IsTotalOrder compare) where
  none_read : (key : Key) → None ≡ row_of compare key_of key []
  unfolding row_of
  none_read key = refl

  -- the first row is read at its key
  row_of-first : (first : Row) (rest : List Row) → row_of compare key_of (key_of first) (first ∷ rest) ≡ Some first
  unfolding row_of
  row_of-first first rest = rw (tied_itself order (key_of first)) refl

  row_of-rest_tested : (key : Key) (first : Row) (rest : List Row) (tied : Bool) → is_eq (compare (key_of first) key) ≡ tied
      → in_key_order compare key_of (first ∷ rest) ≡ true
      → row_of compare key_of key rest ≡ cond tied None (row_of compare key_of key (first ∷ rest))
  unfolding row_of
  row_of-rest_tested key first rest true is ordered =
      sym (row_of-tied compare key_of order (key_of first) key rest is) ∙ none_below compare key_of order (key_of first) rest (in_key_order-first compare key_of order first rest ordered)
  row_of-rest_tested key first rest false is ordered = rw is refl

  -- what is read after the first row
  row_of-rest : (key : Key) (first : Row) (rest : List Row) → in_key_order compare key_of (first ∷ rest) ≡ true
      → row_of compare key_of key rest ≡ cond (is_eq (compare (key_of first) key)) None (row_of compare key_of key (first ∷ rest))
  row_of-rest key first rest ordered = row_of-rest_tested key first rest (is_eq (compare (key_of first) key)) refl ordered

  -- two lists that read the same begin with the same row
  same_first : (x y : Row) (xs ys : List Row) (o : Ordering) → compare (key_of x) (key_of y) ≡ o
      → in_key_order compare key_of (x ∷ xs) ≡ true → in_key_order compare key_of (y ∷ ys) ≡ true
      → ((key : Key) → row_of compare key_of key (x ∷ xs) ≡ row_of compare key_of key (y ∷ ys)) → x ≡ y
  same_first x y xs ys Less is x_order y_order same =
      absurd (none-some x (sym (none_before compare key_of order (key_of x) y ys y_order (ap is_lt is)) ∙ sym (same (key_of x)) ∙ row_of-first x xs))
  same_first x y xs ys Equal is x_order y_order same =
      same_Some x y (sym (row_of-first x xs) ∙ same (key_of x) ∙ row_of-tied compare key_of order (key_of x) (key_of y) (y ∷ ys) (ap is_eq is) ∙ row_of-first y ys)
  same_first x y xs ys Greater is x_order y_order same =
      absurd (none-some y (sym (none_before compare key_of order (key_of y) x xs x_order (above_back compare order (key_of x) (key_of y) (ap is_gt is))) ∙ same (key_of y) ∙ row_of-first y ys))

  -- lists in key order that read the same at each key are one list
  pub same_from_reading : (xs ys : List Row) → in_key_order compare key_of xs ≡ true → in_key_order compare key_of ys ≡ true
      → ((key : Key) → row_of compare key_of key xs ≡ row_of compare key_of key ys) → xs ≡ ys
  same_from_reading [] [] x_order y_order same = refl
  same_from_reading [] (y ∷ ys) x_order y_order same = absurd (none-some y (none_read (key_of y) ∙ same (key_of y) ∙ row_of-first y ys))
  same_from_reading (x ∷ xs) [] x_order y_order same = absurd (none-some x (none_read (key_of x) ∙ sym (same (key_of x)) ∙ row_of-first x xs))
  same_from_reading (x ∷ xs) (y ∷ ys) x_order y_order same =
      let head : x ≡ y = same_first x y xs ys (compare (key_of x) (key_of y)) refl x_order y_order same in
      let tail : xs ≡ ys = same_from_reading xs ys (in_key_order-rest compare key_of order x xs x_order) (in_key_order-rest compare key_of order y ys y_order) (λ key.
      row_of-rest key x xs x_order ∙ ap (λ (found : Option Row). cond (is_eq (compare (key_of x) key)) None found) (same key)
      ∙ ap (λ (first : Row). cond (is_eq (compare (key_of first) key)) None (row_of compare key_of key (y ∷ ys))) head
      ∙ sym (row_of-rest key y ys y_order)) in
      λ i. head i ∷ tail i

  -- what a row of one list reads in another that has its rows
  read_in_other : (xs ys : List Row) → in_key_order compare key_of ys ≡ true → ((row : Row) → Contains xs row → Contains ys row)
      → (key : Key) (row : Row) → row_of compare key_of key xs ≡ Some row → row_of compare key_of key ys ≡ Some row
  read_in_other xs ys y_order has key row read =
      let member = member-row_of compare key_of order key row xs read in
      sym (row_of-tied compare key_of order (key_of row) key ys member.1) ∙ row_of-member compare key_of order row ys y_order (has row member.0)

  same_reading : (xs ys : List Row) → in_key_order compare key_of xs ≡ true → in_key_order compare key_of ys ≡ true
      → ((row : Row) → Contains xs row → Contains ys row) → ((row : Row) → Contains ys row → Contains xs row)
      → (key : Key) (here there : Option Row) → row_of compare key_of key xs ≡ here → row_of compare key_of key ys ≡ there → here ≡ there
  same_reading xs ys x_order y_order x_in_y y_in_x key (Some row) there here_is there_is = sym (read_in_other xs ys y_order x_in_y key row here_is) ∙ there_is
  same_reading xs ys x_order y_order x_in_y y_in_x key None None here_is there_is = refl
  same_reading xs ys x_order y_order x_in_y y_in_x key None (Some row) here_is there_is =
      absurd (none-some row (sym here_is ∙ read_in_other ys xs x_order y_in_x key row there_is))

  -- lists in key order that have the same rows are one list
  pub same_from_members : (xs ys : List Row) → in_key_order compare key_of xs ≡ true → in_key_order compare key_of ys ≡ true
      → ((row : Row) → Contains xs row → Contains ys row) → ((row : Row) → Contains ys row → Contains xs row) → xs ≡ ys
  same_from_members xs ys x_order y_order x_in_y y_in_x = same_from_reading xs ys x_order y_order
      (λ key. same_reading xs ys x_order y_order x_in_y y_in_x key (row_of compare key_of key xs) (row_of compare key_of key ys) refl refl)

  -- two permutations in key order are one list
  pub same_from_permutation : (xs ys : List Row) → in_key_order compare key_of xs ≡ true → in_key_order compare key_of ys ≡ true
      → IsPermutation xs ys → xs ≡ ys
  same_from_permutation xs ys x_order y_order moved = same_from_members xs ys x_order y_order
      (λ row. Contains-permutation xs ys row moved) (λ row. Contains-permutation ys xs row (IsPermutation-sym xs ys moved))
