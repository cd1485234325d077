-- Steps that are put in key order: each has a key of its own, and a key is looked up by halves.
use Rattle.std.proofs.Common.{◌≡◌, ◌∙◌, inl, inr, ℕ, Bool, true, false, ◌||◌, Result, Ok, Err, List, [], ◌∷◌, get_or, length, refl, sym, ap, arith}
use Rattle.std.specs.List.{list_all}
use Rattle.std.specs.List.Sorted.{IsBinarySearchResult, IsSearchInRange}
use Rattle.std.specs.Prelude.{is_ok}
use Rattle.std.specs.Ordering.{is_eq, is_lt, ordering_reverse}
use Rattle.std.specs.declared.cmp.Ordering.{Ordering}
use Rattle.std.specs.declared.cmp.Ordering.TheVariants.{Less, Equal, Greater}
use Rattle.std.proofs.lemmas.Bool.{and_parts, cases_lt}
use Rattle.std.proofs.lemmas.List.Folds.{list_any_at, list_any_none}
use Rattle.clr_shelf.proofs.KeyOrder.{in_key_order-first, in_key_order-rest}
use Rattle.clr_shelf.proofs.Places.{searched}
use Rattle.clr_shelf.specs.Places.{IsGapFor, IsPlaceOf}
use Rattle.clr_shelf.specs.Rows.{in_key_order}
use Rattle.clr_rules.specs.StepKey.{step_key, step_key_cmp, step_key_cmp_total}
use Rattle.clr_rules.specs.declared.step_row.StepRow.{StepRow}
use Rattle.clr_answer.specs.Card.{each_once, has_key_of, is_put}

-- whether two steps have one key, from how their keys compare
same_key : (row other : StepRow) (o : Ordering) → step_key_cmp (step_key other) (step_key row) ≡ o → has_key_of row other ≡ is_eq (ordering_reverse o)
same_key row other o is = ap is_eq (step_key_cmp_total.antisymm (step_key row) (step_key other) ∙ ap ordering_reverse is)

-- what a search by halves finds among steps in key order
pub is_put-search : (rows : List StepRow) (row : StepRow) (r : Result ℕ ℕ) → in_key_order step_key_cmp step_key rows ≡ true → IsSearchInRange r (length rows)
    → IsBinarySearchResult (λ new. step_key_cmp (step_key new) (step_key row)) rows r → is_ok r ≡ is_put rows row
is_put-search rows row (Ok place) ordered inside found =
    let here : IsPlaceOf step_key_cmp step_key (step_key row) rows place = (searched step_key_cmp step_key step_key_cmp_total (step_key row) rows (Ok place) ordered inside found).found in
    sym (list_any_at (has_key_of row) rows place row here.in_range (same_key row (get_or rows place row) Equal (here.has_key row)))
is_put-search rows row (Err place) ordered inside found =
    let gap : IsGapFor step_key_cmp step_key (step_key row) rows place = (searched step_key_cmp step_key step_key_cmp_total (step_key row) rows (Err place) ordered inside found).absent in
    sym (list_any_none (has_key_of row) rows (λ k d lower. elim (cases_lt k place) [
      | inl before ↦ same_key row (get_or rows k d) Less (gap.lower_before k d (omega arith) before)
      | inr after ↦ same_key row (get_or rows k d) Greater (gap.higher_after k d after lower)
    ]))

apart : (o : Ordering) (b : Bool) → is_lt o ≡ true → b ≡ false → (is_eq o || b) ≡ false
apart Less b below none = none
apart Equal b below none = cc below
apart Greater b below none = cc below

none_put : (row : StepRow) (rest : List StepRow) → list_all (λ next. is_lt (step_key_cmp (step_key row) (step_key next))) rest ≡ true → is_put rest row ≡ false
none_put row [] above = refl
none_put row (next ∷ rest) above =
    let (first, more) = and_parts (is_lt (step_key_cmp (step_key row) (step_key next))) (list_all (λ next. is_lt (step_key_cmp (step_key row) (step_key next))) rest) above in
    apart (step_key_cmp (step_key row) (step_key next)) (is_put rest row) first (none_put row rest more)

-- steps in key order have keys of their own
pub each_once-from_order : (rows : List StepRow) → in_key_order step_key_cmp step_key rows ≡ true → each_once rows ≡ true
each_once-from_order [] ordered = refl
each_once-from_order (row ∷ rest) ordered =
    rw (none_put row rest (in_key_order-first step_key_cmp step_key step_key_cmp_total row rest ordered))
    (each_once-from_order rest (in_key_order-rest step_key_cmp step_key step_key_cmp_total row rest ordered))
