-- Rows that are given: their order, and the row of a key, behind references.
use Rattle.std.proofs.Common.{◌≡◌, Bool, true, false, ◌&&◌, Bor, List, [], ◌∷◌, map, refl, ap}
use Rattle.std.specs.List.{find, list_all}
use Rattle.std.specs.Option.{option_copied}
use Rattle.std.specs.Ordering.{is_eq, is_lt}
use Rattle.std.specs.declared.cmp.Ordering.{Ordering}
use Rattle.clr_shelf.specs.Rows.{in_key_order, row_of}

module _ {Key Row : Type 0} (compare : Key → Key → Ordering) (key_of : Row → Key) where
  all_above : (key : Key) (rows : List (Bor Row)) → list_all (λ (next : Bor Row). is_lt (compare key (key_of next.now))) rows
      ≡ list_all (λ next. is_lt (compare key (key_of next))) (map (λ (row : Bor Row). row.now) rows)
  all_above key [] = refl
  all_above key (row ∷ rows) = ap (λ b. is_lt (compare key (key_of row.now)) && b) (all_above key rows)

  same_order : (rows : List (Bor Row)) → in_key_order compare (λ (row : Bor Row). key_of row.now) rows ≡ in_key_order compare key_of (map (λ (row : Bor Row). row.now) rows)
  same_order [] = refl
  same_order (row ∷ rows) = λ i. all_above (key_of row.now) rows i && same_order rows i

  -- rows behind references are in key order where the rows are
  pub in_key_order-lent : (rows : List (Bor Row)) → in_key_order compare key_of (map (λ (row : Bor Row). row.now) rows) ≡ true
      → in_key_order compare (λ (row : Bor Row). key_of row.now) rows ≡ true
  in_key_order-lent rows ordered = rw (same_order rows) ordered

  found : (key : Key) (rows : List (Bor Row)) → find (λ row. is_eq (compare (key_of row) key)) (map (λ (row : Bor Row). row.now) rows)
      ≡ option_copied (find (λ (row : Bor Row). is_eq (compare (key_of row.now) key)) rows)
  found key [] = refl
  found key (row ∷ rows) = at (is_eq (compare (key_of row.now) key)) refl (found key rows)
    where
      at : (b : Bool) → is_eq (compare (key_of row.now) key) ≡ b
          → find (λ row. is_eq (compare (key_of row) key)) (map (λ (row : Bor Row). row.now) rows) ≡ option_copied (find (λ (row : Bor Row). is_eq (compare (key_of row.now) key)) rows)
          → find (λ row. is_eq (compare (key_of row) key)) (map (λ (row : Bor Row). row.now) (row ∷ rows)) ≡ option_copied (find (λ (row : Bor Row). is_eq (compare (key_of row.now) key)) (row ∷ rows))
      at true e more = rw e refl
      at false e more = rw e more

  -- and the row of a key is the one behind the reference that is found
  pub row_of-lent : (key : Key) (rows : List (Bor Row)) → row_of compare key_of key (map (λ (row : Bor Row). row.now) rows)
      ≡ option_copied (row_of compare (λ (row : Bor Row). key_of row.now) key rows)
  unfolding row_of
  row_of-lent key rows = found key rows
