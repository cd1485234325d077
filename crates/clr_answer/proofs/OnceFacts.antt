-- Names that come once, and those that are not among others.
use Rattle.std.proofs.Common.{◌≡◌, ◌<◌, ℕ, ◌+◌, Bool, true, false, cond, not, ◌||◌, List, [], ◌∷◌, ◌++◌, filter, drop, get_or, length, refl, sym, ◌∙◌, ap}
use Rattle.std.specs.BTreeSet.{BTreeSet, Updates, contains}
use Rattle.std.specs.Cmp.Lexicographic.{texts_ties}
use Rattle.std.specs.Ordering.{is_eq}
use Rattle.std.proofs.Math.Bool.{not-not}
use Rattle.std.proofs.lemmas.Cmp.{nat_list_eq_equiv}
use Rattle.std.proofs.lemmas.List.{append_assoc, drop_more}
use Rattle.std.proofs.lemmas.List.Folds.{list_any-append}
use Rattle.clr_net.proofs.Walks.{one_name}
use Rattle.clr_net.specs.Name.{name_cmp, same_name}
use Rattle.clr_net.specs.Names.{has_name}
use Rattle.clr_rules.specs.Holds.{first_of_each}
use Rattle.clr_shelf.proofs.Lists.{filter-filter_wider}

-- the names that are not among these
abbrev pub others : List (List ℕ) → List (List ℕ) → List (List ℕ)
others kept names = filter (λ q. not (has_name kept q)) names

pub others_none : (names : List (List ℕ)) → others [] names ≡ names
others_none [] = refl
others_none (p ∷ names) = ap (λ rest. p ∷ rest) (others_none names)

apart : (kept : List (List ℕ)) (p q : List ℕ) (same kept_too : Bool) → has_name kept p ≡ true → same_name p q ≡ same → has_name kept q ≡ kept_too
    → not kept_too ≡ true → not same ≡ true
apart kept p q true true has is there other = other
apart kept p q true false has is there other = cc (sym there ∙ ap (has_name kept) (sym (one_name p q is)) ∙ has)
apart kept p q false kept_too has is there other = refl

-- a name that is among these need not be left out again
others_without : (kept : List (List ℕ)) (p : List ℕ) (names : List (List ℕ)) → has_name kept p ≡ true → others kept (filter (λ q. not (same_name p q)) names) ≡ others kept names
others_without kept p names has =
    filter-filter_wider (λ q. not (has_name kept q)) (λ q. not (same_name p q)) (λ q other. apart kept p q (same_name p q) (has_name kept q) has refl refl other) names

either_left_out : (passes : List ℕ → Bool) (q : List ℕ) (names rest : List (List ℕ)) (a b : Bool) → passes q ≡ not a → rest ≡ filter passes names
    → cond (not (a || b)) (q ∷ rest) rest ≡ filter passes (cond (not b) (q ∷ names) names)
either_left_out passes q names rest true true is same = same
either_left_out passes q names rest true false is same = same ∙ sym (ap (λ t. cond t (q ∷ filter passes names) (filter passes names)) is)
either_left_out passes q names rest false true is same = same
either_left_out passes q names rest false false is same =
    ap (λ more. q ∷ more) same ∙ sym (ap (λ t. cond t (q ∷ filter passes names) (filter passes names)) is)

or_false : (a : Bool) → (a || false) ≡ a
or_false true = refl
or_false false = refl

-- and one more name leaves itself out
others_more : (kept : List (List ℕ)) (p : List ℕ) (names : List (List ℕ)) → others (kept ++ p ∷ []) names ≡ others kept (filter (λ q. not (same_name p q)) names)
others_more kept p [] = refl
others_more kept p (q ∷ names) =
    let rest = others (kept ++ p ∷ []) names in
    let either : has_name (kept ++ p ∷ []) q ≡ (has_name kept q || same_name p q) =
    list_any-append (same_name q) kept (p ∷ []) ∙ ap (λ b. has_name kept q || b) (or_false (same_name q p) ∙ nat_list_eq_equiv.symm q p) in
    ap (λ b. cond (not b) (q ∷ rest) rest) either
    ∙ either_left_out (λ r. not (has_name kept r)) q (filter (λ r. not (same_name p r)) names) rest (has_name kept q) (same_name p q) refl (others_more kept p names)

-- a name that was met before
pub met_before : (kept all names : List (List ℕ)) (i : ℕ) (p : List ℕ) → i < length names → p ≡ get_or names i p → has_name kept p ≡ true
    → kept ++ others kept (first_of_each (drop i names)) ≡ all → kept ++ others kept (first_of_each (drop (i + 1) names)) ≡ all
unfolding first_of_each
met_before kept all names i p inside is has before =
    let left = drop (i + 1) names in
    let here : drop i names ≡ p ∷ left = drop_more names i p inside ∙ ap (λ q. q ∷ left) (sym is) in
    let out : others kept (first_of_each (p ∷ left)) ≡ others kept (filter (λ q. not (same_name p q)) (first_of_each left)) =
    ap (λ b. cond (not b) (p ∷ others kept (filter (λ q. not (same_name p q)) (first_of_each left))) (others kept (filter (λ q. not (same_name p q)) (first_of_each left)))) has in
    ap (λ rest. kept ++ rest) (sym (ap (λ rest. others kept (first_of_each rest)) here ∙ out ∙ others_without kept p (first_of_each left) has)) ∙ before

-- and one that was not
pub met_now : (kept all names : List (List ℕ)) (i : ℕ) (p : List ℕ) → i < length names → p ≡ get_or names i p → has_name kept p ≡ false
    → kept ++ others kept (first_of_each (drop i names)) ≡ all → (kept ++ p ∷ []) ++ others (kept ++ p ∷ []) (first_of_each (drop (i + 1) names)) ≡ all
unfolding first_of_each
met_now kept all names i p inside is new before =
    let left = drop (i + 1) names in
    let here : drop i names ≡ p ∷ left = drop_more names i p inside ∙ ap (λ q. q ∷ left) (sym is) in
    let put : others kept (first_of_each (p ∷ left)) ≡ p ∷ others kept (filter (λ q. not (same_name p q)) (first_of_each left)) =
    ap (λ b. cond (not b) (p ∷ others kept (filter (λ q. not (same_name p q)) (first_of_each left))) (others kept (filter (λ q. not (same_name p q)) (first_of_each left)))) new in
    append_assoc kept (p ∷ []) (others (kept ++ p ∷ []) (first_of_each left))
    ∙ ap (λ rest. kept ++ p ∷ rest) (others_more kept p (first_of_each left))
    ∙ ap (λ rest. kept ++ rest) (sym (ap (λ rest. others kept (first_of_each rest)) here ∙ put)) ∙ before

-- whether a name was met, as its insertion says
pub was_met : (met : BTreeSet (List ℕ)) (kept : List (List ℕ)) (p : List ℕ) (added : Bool) → ((q : List ℕ) → contains name_cmp met q ≡ has_name kept q)
    → added ≡ not (contains name_cmp met p) → has_name kept p ≡ not added
was_met met kept p added same told = sym (same p) ∙ sym (not-not (contains name_cmp met p)) ∙ ap not (sym told)

-- the names that were met, with one that was not
pub met_more : (old new : BTreeSet (List ℕ)) (kept : List (List ℕ)) (p : List ℕ) → ((q : List ℕ) → contains name_cmp old q ≡ has_name kept q)
    → Updates name_cmp old new p true → (q : List ℕ) → contains name_cmp new q ≡ has_name (kept ++ p ∷ []) q
met_more old new kept p same updates q =
    updates.0 q ∙ at (is_eq (name_cmp p q)) (has_name kept q) (same q)
    ∙ ap (λ b. has_name kept q || b) (sym (texts_ties p q) ∙ nat_list_eq_equiv.symm p q ∙ sym (or_false (same_name q p)))
    ∙ sym (list_any-append (same_name q) kept (p ∷ []))
  where
    at : (tie there : Bool) → contains name_cmp old q ≡ there → cond tie true (contains name_cmp old q) ≡ (there || tie)
    at true true is = refl
    at true false is = refl
    at false true is = is
    at false false is = is

-- and with one that was
pub met_still : (old new : BTreeSet (List ℕ)) (kept : List (List ℕ)) (p : List ℕ) → ((q : List ℕ) → contains name_cmp old q ≡ has_name kept q)
    → Updates name_cmp old new p true → has_name kept p ≡ true → (q : List ℕ) → contains name_cmp new q ≡ has_name kept q
met_still old new kept p same updates has q = updates.0 q ∙ at (is_eq (name_cmp p q)) (texts_ties p q)
  where
    at : (tie : Bool) → same_name p q ≡ tie → cond tie true (contains name_cmp old q) ≡ has_name kept q
    at true is = sym has ∙ ap (has_name kept) (one_name p q is)
    at false is = same q
