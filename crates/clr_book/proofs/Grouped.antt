-- The rows of several groups: one group's rows and those of the rest are all.
use Rattle.std.proofs.Common.{◌≡◌, ◌∙◌, Bool, true, false, ◌||◌, List, [], ◌∷◌, ◌++◌, filter, refl, sym, ap, subst}
use Rattle.std.specs.Cmp.{IsTotalOrder}
use Rattle.std.specs.List.{AllByRecursion, flat_map, list_any}
use Rattle.std.specs.List.Sorted.{IsPermutation, IsStrictlySortedBy}
use Rattle.std.specs.Ordering.{is_eq}
use Rattle.std.specs.declared.cmp.Ordering.{Ordering}
use Rattle.std.specs.declared.cmp.Ordering.TheVariants.{Less, Equal}
use Rattle.std.proofs.lemmas.List.{append_assoc, append-nil}
use Rattle.std.proofs.lemmas.List.Sorted.{IsPermutation-refl, IsPermutation-append_right, IsPermutation-cons, IsPermutation-middle, IsPermutation-sym, IsPermutation-trans}
use mathlib.Core.Bool.{true≢false}
use Rattle.clr_shelf.proofs.Keys.{equal}
use Rattle.clr_shelf.proofs.NextGroups.{rising-first}

module _ {X : Type 0} (p q : X → Bool) (apart : (x : X) → p x ≡ true → q x ≡ false) where
  filter-or_step : (x : X) (xs : List X) (first second : Bool) → p x ≡ first → q x ≡ second
      → IsPermutation (filter (λ x. p x || q x) xs) (filter p xs ++ filter q xs)
      → IsPermutation (filter (λ x. p x || q x) (x ∷ xs)) (filter p (x ∷ xs) ++ filter q (x ∷ xs))
  filter-or_step x xs true true p_is q_is more = absurd (true≢false (sym q_is ∙ apart x p_is))
  filter-or_step x xs true false p_is q_is more =
      rw (p_is, q_is) (IsPermutation-cons x (filter (λ x. p x || q x) xs) (filter p xs ++ filter q xs) more)
  filter-or_step x xs false true p_is q_is more =
      rw (p_is, q_is)
      (IsPermutation-trans (x ∷ filter (λ x. p x || q x) xs) (x ∷ (filter p xs ++ filter q xs)) (filter p xs ++ x ∷ filter q xs)
      (IsPermutation-cons x (filter (λ x. p x || q x) xs) (filter p xs ++ filter q xs) more)
      (IsPermutation-sym (filter p xs ++ x ∷ filter q xs) (x ∷ (filter p xs ++ filter q xs)) (IsPermutation-middle (filter p xs) x (filter q xs))))
  filter-or_step x xs false false p_is q_is more = rw (p_is, q_is) more

  -- what passes one of two tests that exclude each other
  filter-or : (xs : List X) → IsPermutation (filter (λ x. p x || q x) xs) (filter p xs ++ filter q xs)
  filter-or [] = IsPermutation-refl []
  filter-or (x ∷ xs) = filter-or_step x xs (p x) (q x) refl refl (filter-or xs)

module _ {Row Group : Type 0} (group_cmp : Group → Group → Ordering) (order : IsTotalOrder group_cmp) (is_in : Group → Row → Bool)
    (group_of : Row → Group) (in_one_group : (group : Group) (row : Row) → is_in group row ≡ is_eq (group_cmp (group_of row) group)) where
  -- a row of a group is in none that is above it
  in_none_above : (group : Group) (above : List Group) (row : Row) → AllByRecursion (λ next. group_cmp group next ≡ Less) above → is_in group row ≡ true
      → list_any (λ next. is_in next row) above ≡ false
  in_none_above group [] row rise here = refl
  in_none_above group (next ∷ above) row rise here =
      let tied : group_cmp (group_of row) group ≡ Equal = equal (group_cmp (group_of row) group) (sym (in_one_group group row) ∙ here) in
      let below : group_cmp (group_of row) next ≡ Less = order.congr (group_of row) group next tied ∙ rise.0 in
      rw (in_one_group next row ∙ ap is_eq below) (in_none_above group above row rise.1 here)

  pub rising-rest : (group : Group) (above : List Group) → IsStrictlySortedBy group_cmp (group ∷ above) → IsStrictlySortedBy group_cmp above
  unfolding IsStrictlySortedBy
  rising-rest group above rise = rise.1

  -- one group more: its rows come after those that were found
  pub group_more : (group : Group) (above : List Group) (rows all found : List Row) → IsStrictlySortedBy group_cmp (group ∷ above)
      → IsPermutation all (found ++ filter (λ row. list_any (λ next. is_in next row) (group ∷ above)) rows)
      → IsPermutation all ((found ++ filter (is_in group) rows) ++ filter (λ row. list_any (λ next. is_in next row) above) rows)
  group_more group above rows all found rise so_far =
      let one = filter (is_in group) rows in
      let later = filter (λ row. list_any (λ next. is_in next row) above) rows in
      let both = filter (λ row. list_any (λ next. is_in next row) (group ∷ above)) rows in
      let split : IsPermutation both (one ++ later) =
      filter-or (is_in group) (λ row. list_any (λ next. is_in next row) above) (λ row here. in_none_above group above row (rising-first group_cmp group above rise) here) rows in
      subst (λ (rows : List Row). IsPermutation all rows) (sym (append_assoc found one later))
      (IsPermutation-trans all (found ++ both) (found ++ (one ++ later)) so_far (IsPermutation-append_right found both (one ++ later) split))

  none_left : (rows : List Row) → filter (λ row. list_any (λ next. is_in next row) []) rows ≡ []
  none_left [] = refl
  none_left (row ∷ rows) = none_left rows

  -- no group more: all are found
  pub groups_done : (rows all found : List Row) → IsPermutation all (found ++ filter (λ row. list_any (λ next. is_in next row) []) rows) → IsPermutation all found
  groups_done rows all found moved =
      subst (λ (rows : List Row). IsPermutation all rows) (ap (λ later. found ++ later) (none_left rows) ∙ append-nil found) moved

  -- the rows of groups that rise, group by group, are all
  pub rows_of_groups : (groups : List Group) (rows : List Row) → IsStrictlySortedBy group_cmp groups
      → IsPermutation (filter (λ row. list_any (λ next. is_in next row) groups) rows) (flat_map (λ group. filter (is_in group) rows) groups)
  rows_of_groups [] rows rise = rw (none_left rows) (IsPermutation-refl [])
  rows_of_groups (group ∷ above) rows rise =
      let one = filter (is_in group) rows in
      let later = filter (λ row. list_any (λ next. is_in next row) above) rows in
      let both = filter (λ row. list_any (λ next. is_in next row) (group ∷ above)) rows in
      let by_group = flat_map (λ group. filter (is_in group) rows) above in
      IsPermutation-trans both (one ++ later) (one ++ by_group)
      (filter-or (is_in group) (λ row. list_any (λ next. is_in next row) above) (λ row here. in_none_above group above row (rising-first group_cmp group above rise) here) rows)
      (IsPermutation-append_right one later by_group (rows_of_groups above rows (rising-rest group above rise)))
