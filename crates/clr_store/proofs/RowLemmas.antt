-- What an insert and a removal by number make of the rows of a table, whatever the table.
use Rattle.std.proofs.Common.{◌≡◌, inl, inr, ℤ, List, [], ◌∷◌, map, Bool, true, false, not, ◌||◌, refl, sym, ap, subst, ◌∙◌}
use Rattle.std.specs.Prelude.{IsTrue, filter}
use Rattle.std.specs.declared.cmp.Ordering.{Ordering}
use Rattle.std.specs.declared.cmp.Ordering.TheVariants.{Less, Equal, Greater}
use Rattle.std.specs.Ordering.{is_eq, match_ordering}
use Rattle.std.specs.List.{list_any}
use Rattle.std.specs.List.Sorted.{IsPermutation}
use Rattle.std.proofs.lemmas.List.Sorted.{IsPermutation-refl, IsPermutation-trans, IsPermutation-cons, IsPermutation-middle, IsPermutation-sym, Contains-permutation}
use Rattle.sqlite_value.specs.Order.{Row, value_cmp}
use Rattle.sqlite_value.specs.declared.value.Value.{Value}
use Rattle.sqlite_value.specs.declared.value.Value.TheVariants.{Null, Int, Real, Text, Blob}
use Rattle.sqlite_value.proofs.OrderLemmas.{value_cmp_total}
use Rattle.std.specs.Cmp.{both_ways, tied_itself}
use Rattle.sqlite_trees.specs.Tree.{rowid, put_row, without_rowid, has_rowid}
use Rattle.sqlite_trees.specs.View.{IsShaped, is_int}
use Rattle.sqlite_trees.specs.declared.store.Shape.TheVariants.{Table}
use Rattle.sqlite_trees.proofs.ListLemmas.{filter_same, all-filter, ascending-filter}
use Rattle.sqlite_rules.specs.Lists.{Has}
use Rattle.sqlite_rules.specs.Edit.{id_in, is_taken, without_all}
use Rattle.sqlite_rules.proofs.ListLemmas.{all_has, all_from, some_has, some_from, has_filtered, has_kept, has_contained, contains_had}
use Rattle.sqlite_rules.proofs.PlaceLemmas.{tied_same}

pub or_false : (a b : Bool) → (a || b) ≡ false → (a ≡ false) × (b ≡ false)
or_false true b h = absurd cc
or_false false b h = (refl, h)

equal_is : (o : Ordering) → is_eq o ≡ true → o ≡ Equal
equal_is Less h = absurd cc
equal_is Equal h = refl
equal_is Greater h = absurd cc

-- a row whose number is free is one more
pub put_fresh : (new : Row) (rows : List Row) → is_taken rows new ≡ false → IsPermutation (new ∷ rows) (put_row new rows)
put_fresh new [] free = IsPermutation-refl _
put_fresh new (r ∷ rows) free =
    let both = or_false (is_eq (value_cmp (rowid r) (rowid new))) (is_taken rows new) free in go (value_cmp (rowid r) (rowid new)) both.0 (put_fresh new rows both.1)
  where
    go : (o : Ordering) → is_eq o ≡ false → IsPermutation (new ∷ rows) (put_row new rows) → IsPermutation (new ∷ r ∷ rows) (match_ordering o (r ∷ put_row new rows) (new ∷ rows) (new ∷ r ∷ rows))
    go Less h more = IsPermutation-trans _ _ _ (IsPermutation-middle (new ∷ []) r rows) (IsPermutation-cons r _ _ more)
    go Equal h more = absurd cc
    go Greater h more = IsPermutation-refl _

filter_twice : {X : Type 0} (a b : X → Bool) (xs : List X) → filter (λ x. not (b x)) (filter (λ x. not (a x)) xs) ≡ filter (λ x. not (a x || b x)) xs
filter_twice a b [] = refl
filter_twice a b (x ∷ xs) = go (a x) refl (b x) refl (filter_twice a b xs)
  where
    go : (p : Bool) → a x ≡ p → (q : Bool) → b x ≡ q → filter (λ x. not (b x)) (filter (λ x. not (a x)) xs) ≡ filter (λ x. not (a x || b x)) xs
        → filter (λ x. not (b x)) (filter (λ x. not (a x)) (x ∷ xs)) ≡ filter (λ x. not (a x || b x)) (x ∷ xs)
    go true e q f more = rw e more
    go false e true f more = rw (e, f) more
    go false e false f more = rw (e, f) (ap (λ l. x ∷ l) more)

pub without_is : (ids : List ℤ) (rows : List Row) → without_all rows ids ≡ filter (λ r. not (list_any (λ id. has_rowid id r) ids)) rows
without_is [] rows = sym (all_stay rows)
  where
    all_stay : (rows : List Row) → filter (λ r. true) rows ≡ rows
    all_stay [] = refl
    all_stay (r ∷ rows) = ap (λ l. r ∷ l) (all_stay rows)
without_is (id ∷ ids) rows = without_is ids (without_rowid id rows) ∙ filter_twice (has_rowid id) (λ r. list_any (λ id. has_rowid id r) ids) rows

keyed : (v : Value) → IsTrue (is_int v) → v ≡ Int (id_in v)
keyed Null h = absurd cc
keyed (Int n) h = refl
keyed (Real x) h = absurd cc
keyed (Text t) h = absurd cc
keyed (Blob b) h = absurd cc

has_map : {X Y : Type 0} (f : X → Y) (xs : List X) (y : Y) → Has (map f xs) y → (x : X) × Has xs x × (y ≡ f x)
has_map f [] y h = absurd h
has_map f (x ∷ xs) y (inl e) = (x, inl refl, e)
has_map f (x ∷ xs) y (inr h) = let it = has_map f xs y h in (it.0, inr it.1, it.2)

map_has : {X Y : Type 0} (f : X → Y) (xs : List X) (x : X) → Has xs x → Has (map f xs) (f x)
map_has f [] x h = absurd h
map_has f (y ∷ xs) x (inl e) = inl (ap f e)
map_has f (y ∷ xs) x (inr h) = inr (map_has f xs x h)

module _ (tree : List Row) (shaped : IsShaped Table tree) (test : Row → Bool) (ids : List ℤ) (same : IsPermutation (map (λ r. id_in (rowid r)) (filter test tree)) ids) where
  id_of : Row → ℤ
  id_of r = id_in (rowid r)

  at_row : (r : Row) → Has tree r → list_any (λ id. has_rowid id r) ids ≡ test r
  unfolding id_of
  at_row r here = both_ways _ _ gone stays
    where
      gone : list_any (λ id. has_rowid id r) ids ≡ true → test r ≡ true
      gone some =
          let it = some_has (λ id. has_rowid id r) ids some in
          let back = has_map (λ r. id_in (rowid r)) (filter test tree) it.0 (has_contained _ _ (Contains-permutation _ _ _ (IsPermutation-sym _ _ same) (contains_had ids it.0 it.1))) in
          let there = has_filtered test tree back.0 back.1 in
          let number = keyed (rowid back.0) (all_has _ tree back.0 shaped.1 there.0) in
          let tie = equal_is (value_cmp (rowid r) (Int it.0)) it.2 in
          let tied = subst (λ v. value_cmp (rowid r) v ≡ Equal) (ap Int back.2 ∙ sym number) tie in
          subst (λ x. test x ≡ true) (sym (tied_same tree r back.0 shaped.0 here there.0 tied)) there.1

      stays : test r ≡ true → list_any (λ id. has_rowid id r) ids ≡ true
      stays passes =
          let number = keyed (rowid r) (all_has _ tree r shaped.1 here) in
          let id = id_in (rowid r) in
          let had = has_contained _ _ (Contains-permutation _ _ _ same (contains_had _ id (map_has (λ r. id_in (rowid r)) (filter test tree) r (has_kept test tree r here passes)))) in
          some_from (λ id. has_rowid id r) ids id had (ap is_eq (subst (λ v. value_cmp (rowid r) v ≡ Equal) number (tied_itself value_cmp_total (rowid r))))

  -- the rows whose numbers are listed are those that pass
  pub removed : without_all tree ids ≡ filter (λ r. not (test r)) tree
  removed = without_is ids tree ∙ filter_same (λ r. not (list_any (λ id. has_rowid id r) ids)) (λ r. not (test r)) tree (all_from _ tree (λ r here. ap not (at_row r here)))

pub shaped-filter : (p : Row → Bool) (rows : List Row) → IsShaped Table rows → IsShaped Table (filter p rows)
shaped-filter p rows shaped = (ascending-filter _ p rows shaped.0, all-filter _ p rows shaped.1)
