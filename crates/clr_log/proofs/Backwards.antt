-- Lines before a place, the newest first.
use Rattle.std.proofs.Common.{◌≡◌, ◌∙◌, ℕ, ◌+◌, ◌<◌, Bool, true, false, ◌||◌, List, [], ◌∷◌, ◌++◌, map, reverse, length, take, get_or, Option, None, Some, option_map, refl, ap, sym, arith, zero, suc, ◌-◌, ◌≤◌, Bor, IfSome, MatchOption, HoldsAt, option_copied, slice_get}
use Rattle.std.proofs.lemmas.List.{map-append, reverse-append, take_more}
use Rattle.std.proofs.lemmas.Option.{slice_get-map, slice_get_past, slice_get_read}
use Rattle.clr_order.specs.Step.{Task, task}
use Rattle.clr_order.specs.declared.step.Step.{Step}
use Rattle.clr_rules.specs.Id.{Id}
use Rattle.clr_journal.specs.Line.{entry_of}
use Rattle.clr_journal.specs.declared.line.Line.{Line}
use Rattle.clr_log.specs.Steps.{amended_by, given_by, given_or, is_withdrawn, left_if, step_at, step_before}

pub newest_first : {X Y : Type 0} (f : X → Y) (xs rest : List X) (x : X) → xs ≡ rest ++ x ∷ [] → reverse (map f xs) ≡ f x ∷ reverse (map f rest)
newest_first f xs rest x is =
    ap (λ ys. reverse (map f ys)) is ∙ ap reverse (map-append f rest (x ∷ [])) ∙ reverse-append (map f rest) (f x ∷ [])

-- ---- looking for a step

begins : (c : Id) (k : ℕ) (withdraws amended : Bool) (rest older : List Line) (line : Line) (whole : Option Task) → rest ≡ older ++ line ∷ []
    → step_before c k withdraws amended (reverse (map entry_of rest)) ≡ whole → step_before c k withdraws amended (entry_of line ∷ reverse (map entry_of older)) ≡ whole
begins c k withdraws amended rest older line whole is so_far = ap (step_before c k withdraws amended) (sym (newest_first entry_of rest older line is)) ∙ so_far

-- the line gave an order
pub is_found : (c : Id) (k : ℕ) (withdraws amended : Bool) (rest older : List Line) (line : Line) (steps : List Task) (whole : Option Task) → rest ≡ older ++ line ∷ []
    → given_by withdraws c (entry_of line) ≡ Some steps → step_before c k withdraws amended (reverse (map entry_of rest)) ≡ whole
    → option_map (left_if amended) (step_at k steps) ≡ whole
unfolding step_before
is_found c k withdraws amended rest older line steps whole is given so_far =
    let here = begins c k withdraws amended rest older line whole is so_far in
    ap (λ found. given_or k amended found (step_before c k (is_withdrawn (entry_of line)) (amended || amended_by withdraws c k (entry_of line)) (reverse (map entry_of older)))) (sym given) ∙ here

-- it did not
pub goes_on : (c : Id) (k : ℕ) (withdraws amended : Bool) (rest older : List Line) (line : Line) (whole : Option Task) → rest ≡ older ++ line ∷ []
    → given_by withdraws c (entry_of line) ≡ None → step_before c k withdraws amended (reverse (map entry_of rest)) ≡ whole
    → step_before c k (is_withdrawn (entry_of line)) (amended || amended_by withdraws c k (entry_of line)) (reverse (map entry_of older)) ≡ whole
unfolding step_before
goes_on c k withdraws amended rest older line whole is given so_far =
    let here = begins c k withdraws amended rest older line whole is so_far in
    ap (λ found. given_or k amended found (step_before c k (is_withdrawn (entry_of line)) (amended || amended_by withdraws c k (entry_of line)) (reverse (map entry_of older)))) (sym given) ∙ here

-- no line is left
pub ends : (c : Id) (k : ℕ) (withdraws amended : Bool) (rest : List Line) (whole : Option Task) → length rest ≡ 0
    → step_before c k withdraws amended (reverse (map entry_of rest)) ≡ whole → None ≡ whole
unfolding step_before
ends c k withdraws amended [] whole none so_far = so_far
ends c k withdraws amended (line ∷ rest) whole none so_far = absurd (no_line (length rest) none)
  where
    no_line : (n : ℕ) → suc n ≡ 0 → ⊥
    no_line n none = omega (arith, none)

-- what `get` finds
found_at : {X : Type 0} (found : Option (Bor X)) (n : ℕ) (xs : List X) → IfSome found (λ x. x.now ≡ get_or xs n x.now)
    → MatchOption found (length xs ≤ n) (λ x. (n < length xs) × HoldsAt (λ y. x.now ≡ y) xs n) → option_copied found ≡ slice_get xs n
found_at None n xs is past = sym (slice_get_past xs n past)
found_at (Some x) n xs is within = sym (slice_get_read xs (length xs) n x.now refl within.0 is)

at_number : (k n : ℕ) (steps : List Task) → (k ≡ 0 → ⊥) → n ≡ k - 1 → step_at k steps ≡ slice_get steps n
at_number zero n steps some is = absurd (some refl)
at_number (suc k) n steps some is =
    let same : k ≡ n = omega (arith, is) in
    ap (slice_get steps) same

-- the step of a number
pub numbered_at : (k n : ℕ) (found : Option (Bor Step)) (items : List Step) (steps : List Task) → (k ≡ 0 → ⊥) → n ≡ k - 1 → map task items ≡ steps
    → IfSome found (λ x. x.now ≡ get_or items n x.now) → MatchOption found (length items ≤ n) (λ x. (n < length items) × HoldsAt (λ y. x.now ≡ y) items n)
    → option_map task (option_copied found) ≡ step_at k steps
numbered_at k n found items steps some is same read within =
    ap (option_map task) (found_at found n items read within) ∙ sym (slice_get-map task items n) ∙ ap (λ all. slice_get all n) same ∙ sym (at_number k n steps some is)
