-- Rows in the order of their names, and the same rows in that order, are one list.
use Rattle.std.proofs.Common.{◌≡◌, true, List, [], ◌∷◌, map, refl, sym, ℕ}
use Rattle.std.specs.List.{AllByRecursion, list_all}
use Rattle.std.specs.List.Sorted.{IsPermutation, IsStrictlySortedBy}
use Rattle.std.specs.Ordering.{is_lt}
use Rattle.std.specs.declared.cmp.Ordering.TheVariants.{Less}
use Rattle.std.proofs.lemmas.Cmp.{nat_list_cmp_total}
use Rattle.std.proofs.lemmas.Map.Keys.{sorted_head, sorted_tail}
use Rattle.clr_net.specs.Name.{name_cmp}
use Rattle.clr_shelf.specs.Rows.{in_key_order}
use Rattle.clr_shelf.proofs.SameRows.{same_from_permutation}

module _ {Row : Type 0} (name_of : Row → List ℕ) where
  all_above : (row : Row) (rest : List Row) → AllByRecursion (λ name. name_cmp (name_of row) name ≡ Less) (map name_of rest)
      → list_all (λ next. is_lt (name_cmp (name_of row) (name_of next))) rest ≡ true
  all_above row [] all = refl
  all_above row (next ∷ rest) all = rw (all.0, all_above row rest all.1) refl

  in_order : (rows : List Row) → IsStrictlySortedBy name_cmp (map name_of rows) → in_key_order name_cmp name_of rows ≡ true
  in_order [] rising = refl
  in_order (row ∷ rows) rising =
      rw (all_above row rows (sorted_head name_cmp (name_of row) (map name_of rows) rising), in_order rows (sorted_tail name_cmp (name_of row) (map name_of rows) rising)) refl

  pub one_list : (rows sorted : List Row) → IsPermutation rows sorted → in_key_order name_cmp name_of rows ≡ true
      → IsStrictlySortedBy name_cmp (map name_of sorted) → sorted ≡ rows
  one_list rows sorted same rising rising_too =
      sym (same_from_permutation name_cmp name_of nat_list_cmp_total rows sorted rising (in_order sorted rising_too) same)
