-- What it means that two names differ by one letter.
use Rattle.std.proofs.Common.{◌≡◌, ◌↔◌, ◌∙◌, ◌++◌, ◌∷◌, ◌&&◌, ◌||◌, ◌==◌, Bool, true, false, IsTrue, ℕ, List, [], ap, refl, sym, subst, inl, inr, if◌then◌else◌}
use Rattle.std.proofs.lemmas.Bool.{and_from, and_parts, eq-eqb, eqb-true, or_cases, or_left, or_right, true≢false}
use Rattle.clr_net.specs.Name.{same_name}
use Rattle.clr_net.proofs.Walks.{one_name, same_itself}
use Rattle.clr_csv.specs.Alike.{AreOneLetterApart, differ_by_one_letter, has_letter_more, has_letter_replaced, is_letter, part_by_one_letter}
use Rattle.clr_csv.specs.Alike.AreOneLetterApart.{added, left_out, replaced}

-- names that begin alike, and differ by one letter after that
behind : (x y : ℕ) (a b : List ℕ) → x ≡ y → AreOneLetterApart a b → AreOneLetterApart (x ∷ a) (y ∷ b)
behind x y a b same (replaced before after p q is_a is_b differ letter) =
    replaced (x ∷ before) after p q (λ i. x ∷ is_a i) (λ i. sym same i ∷ is_b i) differ letter
behind x y a b same (left_out before after p is_a is_b letter) =
    left_out (x ∷ before) after p (λ i. x ∷ is_a i) (λ i. sym same i ∷ is_b i) letter
behind x y a b same (added before after q is_a is_b letter) =
    added (x ∷ before) after q (λ i. x ∷ is_a i) (λ i. sym same i ∷ is_b i) letter

-- the first has a letter more here
more_of : (a b : List ℕ) → has_letter_more a b ≡ true → AreOneLetterApart a b
more_of [] b e = absurd (true≢false (sym e))
more_of (x ∷ a) b e = let (letter, same) = and_parts (is_letter x) (same_name a b) e in left_out [] a x refl (sym (one_name a b same)) letter

-- and the second
less_of : (a b : List ℕ) → has_letter_more b a ≡ true → AreOneLetterApart a b
less_of a [] e = absurd (true≢false (sym e))
less_of a (y ∷ b) e = let (letter, same) = and_parts (is_letter y) (same_name b a) e in added [] b y (sym (one_name b a same)) refl letter

-- or a letter in place of another byte, which is not the same
replaced_in : (x y : ℕ) (a b : List ℕ) → (x == y) ≡ false → has_letter_replaced (x ∷ a) (y ∷ b) ≡ true → AreOneLetterApart (x ∷ a) (y ∷ b)
replaced_in x y a b differ e =
    let (letter, same) = and_parts (is_letter x || is_letter y) (same_name a b) e in
    replaced [] a x y refl (λ i. y ∷ sym (one_name a b same) i) differ letter

-- names that part here
part_here : (a b : List ℕ) → (has_letter_replaced a b ≡ true → AreOneLetterApart a b) → part_by_one_letter a b ≡ true → AreOneLetterApart a b
part_here a b instead e =
    elim (or_cases (has_letter_replaced a b || has_letter_more a b) (has_letter_more b a) e) [
      | inl first ↦ elim (or_cases (has_letter_replaced a b) (has_letter_more a b) first) [ inl h ↦ instead h | inr h ↦ more_of a b h ]
      | inr h ↦ less_of a b h
    ]

-- names that differ by one letter are one letter apart
apart : (a b : List ℕ) → differ_by_one_letter a b ≡ true → AreOneLetterApart a b
unfolding differ_by_one_letter
apart [] b e = part_here [] b (λ h. absurd (true≢false (sym h))) e
apart (x ∷ a) [] e = part_here (x ∷ a) [] (λ h. absurd (true≢false (sym h))) e
apart (x ∷ a) (y ∷ b) e = at (x == y) refl (apart a b) e
  where
    at : (t : Bool) → (x == y) ≡ t → (differ_by_one_letter a b ≡ true → AreOneLetterApart a b)
        → (if t then differ_by_one_letter a b else part_by_one_letter (x ∷ a) (y ∷ b)) ≡ true
        → AreOneLetterApart (x ∷ a) (y ∷ b)
    at true same rest e = behind x y a b (eqb-true x y same) (rest e)
    at false differ rest e = part_here (x ∷ a) (y ∷ b) (replaced_in x y a b differ) e

-- one letter in place of another byte
instead : (before after : List ℕ) (x y : ℕ) → (x == y) ≡ false → (is_letter x || is_letter y) ≡ true
    → differ_by_one_letter (before ++ x ∷ after) (before ++ y ∷ after) ≡ true
unfolding differ_by_one_letter
instead [] after x y differ letter = rw differ (or_left _ _ (or_left _ _ (and_from _ _ letter (same_itself after))))
instead (z ∷ before) after x y differ letter = rw (eq-eqb z z refl) (instead before after x y differ letter)

-- one letter more, at the front
more_here : (after : List ℕ) (x : ℕ) → is_letter x ≡ true → differ_by_one_letter (x ∷ after) after ≡ true
unfolding differ_by_one_letter
more_here [] x letter =
    or_left (has_letter_replaced (x ∷ []) [] || has_letter_more (x ∷ []) []) (has_letter_more [] (x ∷ []))
    (or_right (has_letter_replaced (x ∷ []) []) (has_letter_more (x ∷ []) []) (and_from _ _ letter refl))
more_here (y ∷ after) x letter = at (x == y) refl (more_here after y)
  where
    at : (t : Bool) → (x == y) ≡ t → (is_letter y ≡ true → differ_by_one_letter (y ∷ after) after ≡ true)
        → (if t then differ_by_one_letter (y ∷ after) after else part_by_one_letter (x ∷ y ∷ after) (y ∷ after)) ≡ true
    at true same rest = rest (rw (← eqb-true x y same) letter)
    at false differ rest = or_left _ _ (or_right _ _ (and_from _ _ letter (same_itself (y ∷ after))))

-- or further on
more : (before after : List ℕ) (x : ℕ) → is_letter x ≡ true → differ_by_one_letter (before ++ x ∷ after) (before ++ after) ≡ true
unfolding differ_by_one_letter
more [] after x letter = more_here after x letter
more (z ∷ before) after x letter = rw (eq-eqb z z refl) (more before after x letter)

-- one letter less
less_here : (after : List ℕ) (y : ℕ) → is_letter y ≡ true → differ_by_one_letter after (y ∷ after) ≡ true
unfolding differ_by_one_letter
less_here [] y letter =
    or_right (has_letter_replaced [] (y ∷ []) || has_letter_more [] (y ∷ [])) (has_letter_more (y ∷ []) []) (and_from _ _ letter refl)
less_here (x ∷ after) y letter = at (x == y) refl (less_here after x)
  where
    at : (t : Bool) → (x == y) ≡ t → (is_letter x ≡ true → differ_by_one_letter after (x ∷ after) ≡ true)
        → (if t then differ_by_one_letter after (x ∷ after) else part_by_one_letter (x ∷ after) (y ∷ x ∷ after)) ≡ true
    at true same rest = rest (rw (eqb-true x y same) letter)
    at false differ rest = or_right _ _ (and_from _ _ letter (same_itself (x ∷ after)))

less : (before after : List ℕ) (y : ℕ) → is_letter y ≡ true → differ_by_one_letter (before ++ after) (before ++ y ∷ after) ≡ true
unfolding differ_by_one_letter
less [] after y letter = less_here after y letter
less (z ∷ before) after y letter = rw (eq-eqb z z refl) (less before after y letter)

-- names that are one letter apart differ by it
differ : (a b : List ℕ) → AreOneLetterApart a b → differ_by_one_letter a b ≡ true
differ a b (replaced before after x y is_a is_b parts letter) = rw (is_a, is_b) (instead before after x y parts letter)
differ a b (left_out before after x is_a is_b letter) = rw (is_a, is_b) (more before after x letter)
differ a b (added before after y is_a is_b letter) = rw (is_a, is_b) (less before after y letter)

-- the test, and what it means
pub one_letter_apart : (test : Bool) (a b : List ℕ) → test ≡ differ_by_one_letter a b → IsTrue test ↔ AreOneLetterApart a b
one_letter_apart test a b is = (λ e. apart a b (sym is ∙ e), λ is_apart. is ∙ differ a b is_apart)
