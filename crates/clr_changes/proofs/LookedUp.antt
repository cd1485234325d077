-- Rows that are looked up by name: whether one is there, and whether it is a given row.
use Rattle.std.proofs.Common.{◌≡◌, ◌∙◌, ℕ, Bool, true, false, ◌||◌, ◌==◌, not, arith, length, ne_eqb, List, [], ◌∷◌, map, find, All, Bor, Option, None, Some, is_some, option_copied, refl, sym, ap, is_lt}
use Rattle.std.specs.List.{list_any}
use Rattle.std.specs.List.Sorted.{IsStrictlySortedBy}
use Rattle.std.specs.declared.cmp.Ordering.{Ordering}
use Rattle.std.specs.declared.cmp.Ordering.TheVariants.{Less}
use Rattle.std.proofs.lemmas.Bool.{both_ways, not_from_false}
use Rattle.std.proofs.lemmas.Cmp.{nat_list_cmp_total}
use Rattle.std.proofs.lemmas.List.Elements.{All-head, All-tail}
use Rattle.std.proofs.lemmas.Map.Keys.{sorted_tail}
use Rattle.std.proofs.lemmas.Map.Views.{All-after_first}
use Rattle.clr_net.specs.Name.{name_cmp, same_name}
use Rattle.clr_net.specs.Names.{has_name}
use Rattle.clr_net.proofs.Walks.{one_name}
use Rattle.clr_rules.proofs.lists.NamedRows.{list_any-map}
use Rattle.clr_rules.proofs.lists.RoundSteps.{some_step_there}
use Rattle.clr_rules.proofs.staffed.Puts.{found_any}
use Rattle.clr_rules.specs.Steps.{is_some_step}
use Rattle.clr_rules.specs.declared.step_row.StepRow.{StepRow}
use Rattle.clr_shelf.proofs.Keys.{below_not_above}

-- whether a row of a name is found, is whether the name is among theirs
pub found_named : {X : Type 0} (name_of : X → List ℕ) (rows : List X) (n : List ℕ)
    → is_some (find (λ row. same_name n (name_of row)) rows) ≡ has_name (map name_of rows) n
found_named name_of rows n = found_any (λ row. same_name n (name_of row)) rows ∙ sym (list_any-map (same_name n) name_of rows)

-- what is behind a reference is there where the reference is
pub is_there : {X : Type 0} (found : Option (Bor X)) → is_some found ≡ is_some (option_copied found)
is_there None = refl
is_there (Some row) = refl

-- there is no step exactly where there are none
pub some_step_behind : {X : Type 0} (shows : X → StepRow) (items : List X) → not (length items == 0) ≡ is_some_step (map shows items)
some_step_behind shows [] = refl
some_step_behind shows (item ∷ items) =
    let size : not (length (item ∷ items) == 0) ≡ true = not_from_false (length (item ∷ items) == 0) (ne_eqb (length (item ∷ items)) 0 (λ none. omega arith)) in
    size ∙ sym (some_step_there (shows item) (map shows items))

or_false : (b : Bool) → (b || false) ≡ b
or_false true = refl
or_false false = refl

-- a name is not below itself
below_itself : (n : List ℕ) → is_lt (name_cmp n n) ≡ true → ⊥
below_itself n below = both_ways (is_lt (name_cmp n n)) (below_not_above name_cmp nat_list_cmp_total n n below) below

module _ {Row : Type 0} (name_of : Row → List ℕ) (same : Row → Row → Bool)
    (named : (a b : Row) → same a b ≡ true → same_name (name_of a) (name_of b) ≡ true) (a : Row) where
  -- whether the row that is found is the same
  abbrev pub is_found : Option Row → Bool
  is_found None = false
  is_found (Some row) = same a row

  none_above : (n : List ℕ) (rows : List Row) → name_of a ≡ n → All (λ other. name_cmp n other ≡ Less) (map name_of rows) → list_any (same a) rows ≡ false
  none_above n [] is above = refl
  none_above n (row ∷ rows) is above =
      at (same a row) refl (none_above n rows is (All-tail (λ other. name_cmp n other ≡ Less) (name_of row) (map name_of rows) above))
    where
      at : (b : Bool) → same a row ≡ b → list_any (same a) rows ≡ false → (same a row || list_any (same a) rows) ≡ false
      at false differs rest = rw differs rest
      at true alike rest =
          let one : n ≡ name_of row = sym is ∙ one_name (name_of a) (name_of row) (named a row alike) in
          let less : name_cmp n (name_of row) ≡ Less = All-head (λ other. name_cmp n other ≡ Less) (name_of row) (map name_of rows) above in
          absurd (below_itself n (ap (λ (m : List ℕ). is_lt (name_cmp n m)) one ∙ ap is_lt less))

  pub looked_up : (rows : List Row) → IsStrictlySortedBy name_cmp (map name_of rows)
      → is_found (find (λ row. same_name (name_of a) (name_of row)) rows) ≡ list_any (same a) rows
  looked_up [] sorted = refl
  looked_up (row ∷ rows) sorted =
      at (same_name (name_of a) (name_of row)) refl (looked_up rows (sorted_tail name_cmp (name_of row) (map name_of rows) sorted))
    where
      at : (b : Bool) → same_name (name_of a) (name_of row) ≡ b → is_found (find (λ row. same_name (name_of a) (name_of row)) rows) ≡ list_any (same a) rows
          → is_found (find (λ row. same_name (name_of a) (name_of row)) (row ∷ rows)) ≡ (same a row || list_any (same a) rows)
      at true is rest =
          let none = none_above (name_of row) rows (one_name (name_of a) (name_of row) is) (All-after_first name_cmp (name_of row) (map name_of rows) sorted) in
          rw is (sym (or_false (same a row)) ∙ ap (λ more. same a row || more) (sym none))
      at false is rest = rw is (rest ∙ ap (λ first. first || list_any (same a) rows) (sym (other (same a row) refl)))
        where
          other : (b : Bool) → same a row ≡ b → same a row ≡ false
          other false differs = differs
          other true alike = absurd (both_ways (same_name (name_of a) (name_of row)) is (named a row alike))
