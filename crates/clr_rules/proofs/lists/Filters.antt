-- Which rows a filter keeps, which names a list has, and how tests that say a condition in words are joined.
use Rattle.std.proofs.Common.{◌≡◌, ◌↔◌, ◌⊎◌, inl, inr, ⊎_elim, ℕ, Bool, true, false, ◌&&◌, ◌||◌, List, [], ◌∷◌, refl, sym, ◌∙◌, ap, filter, Contains}
use Rattle.std.proofs.lemmas.Bool.{false_from_ne_true, and_from, and_parts, false≢true, or_cases, or_left, or_right}
use Rattle.clr_rules.specs.Prelude.{same_name, has_name}
use Rattle.clr_net.proofs.Walks.{any_from, one_name, same_itself, some_from}
use Rattle.clr_shelf.proofs.Lists.{Contains-here, Contains-later}
use Rattle.clr_rules.proofs.lists.NamedRows.{Contains-filter}
pub use Rattle.clr_net.proofs.KeptRows.{kept_there, mapped_from, there_mapped}

-- a test says a condition
abbrev pub Says : Bool → Type 0 → Type 0
Says test P = (test ≡ true) ↔ P

pub or_says : (a b : Bool) (P Q : Type 0) → Says a P → Says b Q → Says (a || b) (P ⊎ Q)
or_says a b P Q p q = (
  λ either. ⊎_elim (λ left. inl (p.0 left)) (λ right. inr (q.0 right)) (or_cases a b either),
  λ either. ⊎_elim (λ left. or_left a b (p.1 left)) (λ right. or_right a b (q.1 right)) either,
)

pub and_says : (a b : Bool) (P Q : Type 0) → Says a P → Says b Q → Says (a && b) (P × Q)
and_says a b P Q p q = (
  λ both. let parts = and_parts a b both in (p.0 parts.0, q.0 parts.1),
  λ both. and_from a b (p.1 both.0) (q.1 both.1),
)

pub says_as : {a b : Bool} {P : Type 0} → a ≡ b → Says b P → Says a P
says_as same says = (λ passes. says.0 (sym same ∙ passes), λ words. same ∙ says.1 words)

pub says_like : {a : Bool} {P Q : Type 0} → Says a P → (P → Q) → (Q → P) → Says a Q
says_like says on back = (λ passes. on (says.0 passes), λ words. says.1 (back words))

-- a test that says what cannot be fails
pub fails : (a : Bool) → Says a ⊥ → a ≡ false
fails a says = false_from_ne_true a says.0

pub itself_says : (a : Bool) → Says a (a ≡ true)
itself_says a = (λ h. h, λ h. h)

-- a filter keeps exactly the rows of the list that pass
pub is_kept : {X : Type 0} (p : X → Bool) (xs : List X) (P : X → Type 0) → ((x : X) → Says (p x) (P x)) → (x : X)
    → Contains (filter p xs) x ↔ (Contains xs x × P x)
is_kept p xs P says x = (
  λ member. let both = kept_there p xs x member in (both.0, (says x).0 both.1),
  λ both. Contains-filter p xs x both.0 ((says x).1 both.1),
)

-- a name is among these
pub name_says : (names : List (List ℕ)) (s : List ℕ) → Says (has_name names s) (Contains names s)
name_says names s = (
  λ passes. let found = some_from (same_name s) names passes in rw (one_name s found.0 found.2) found.1,
  λ member. any_from (same_name s) names s member (same_itself s),
)

-- a filter after one that keeps all its rows of the list
pub filter-kept : {X : Type 0} (p q : X → Bool) (xs : List X) → ((x : X) → Contains xs x → p x ≡ true → q x ≡ true) → filter p (filter q xs) ≡ filter p xs
filter-kept p q [] wider = refl
filter-kept p q (x ∷ xs) wider =
    at (p x) refl (q x) refl (filter-kept p q xs (λ y there. wider y (Contains-later x y xs there)))
  where
    at : (a : Bool) → p x ≡ a → (b : Bool) → q x ≡ b → filter p (filter q xs) ≡ filter p xs → filter p (filter q (x ∷ xs)) ≡ filter p (x ∷ xs)
    at true e true f more = rw (f, e) (ap (λ l. x ∷ l) more)
    at true e false f more = absurd (false≢true (sym f ∙ wider x (Contains-here x xs) e))
    at false e true f more = rw (f, e) more
    at false e false f more = rw (f, e) more

-- a filter that no element of the list passes keeps nothing
pub filter-no_member : {X : Type 0} (p : X → Bool) (xs : List X) → ((x : X) → Contains xs x → p x ≡ false) → filter p xs ≡ []
filter-no_member p [] fails = refl
filter-no_member p (x ∷ xs) fails = rw (fails x (Contains-here x xs)) (filter-no_member p xs (λ y there. fails y (Contains-later x y xs there)))

pub filter-nothing : {X : Type 0} (p : X → Bool) (xs : List X) → ((x : X) → p x ≡ false) → filter p xs ≡ []
filter-nothing p xs fails = filter-no_member p xs (λ x _. fails x)
