-- Registers that have the same of a clearance: each question about the clearance is answered alike.
use Rattle.std.proofs.Common.{◌≡◌, ◌∙◌, ℕ, Bool, true, false, ◌&&◌, ◌||◌, List, [], ◌∷◌, map, is_some, refl, sym, ap, subst, if◌then◌else◌, filter}
use Rattle.clr_rules.proofs.Common.{list_any, and_parts, both_ways, equal, filter-filter_wider, of_round, held_among, SameOwn, of_round_is, own_id}
use Rattle.clr_shelf.proofs.Groups.{row_of-filter_inside}
use Rattle.clr_rules.specs.Prelude.{Hold, HoldKind, HeldOpen, Block, Control, Tag, StepRow, Id, same_id, Register, is_some_step, present_steps, present_round, steps_in, hold_cmp, hold_cmp_total}
use Rattle.clr_rules.specs.Prelude.{has_any_hold, has_hold, has_some_hold, held_at, hold_key, hold_of, holds_of, first_of_each, places_of, same_kind}
use Rattle.clr_rules.specs.Hold.{same_hold}

-- a search for any in what a wider test keeps
list_any-wider : {X : Type 0} (p q : X → Bool) → ((x : X) → p x ≡ true → q x ≡ true) → (xs : List X) → list_any p (filter q xs) ≡ list_any p xs
list_any-wider p q wider [] = refl
list_any-wider p q wider (x ∷ xs) = at (q x) refl (p x) refl (list_any-wider p q wider xs)
  where
    at : (a : Bool) → q x ≡ a → (b : Bool) → p x ≡ b → list_any p (filter q xs) ≡ list_any p xs → list_any p (filter q (x ∷ xs)) ≡ list_any p (x ∷ xs)
    at true e b f more = rw e (ap (λ (t : Bool). p x || t) more)
    at false e true f more = absurd (both_ways (q x) e (wider x f))
    at false e false f more = rw (e, f) more

-- ---- questions on all holds are questions on those of the clearance

module _ (holds : List Hold) (c : Id) where
  has_hold-own : (kind : HoldKind) (place : List ℕ) → has_hold (holds_of holds c) c kind place ≡ has_hold holds c kind place
  unfolding holds_of
  has_hold-own kind place = ap is_some (row_of-filter_inside hold_cmp hold_key hold_cmp_total (λ (h : Hold). same_id c h.id) (hold_of c kind place) holds
      (λ h tied. subst (λ (x : Hold). same_id c x.id ≡ true) (sym (same_hold h (hold_of c kind place) (equal (hold_cmp h (hold_of c kind place)) tied))) (own_id c)))

  has_some_hold-own : (kind : HoldKind) → has_some_hold (holds_of holds c) c kind ≡ has_some_hold holds c kind
  unfolding holds_of has_some_hold
  has_some_hold-own kind = list_any-wider (λ (h : Hold). same_id c h.id && same_kind kind h.kind) (λ h. same_id c h.id)
      (λ h both. (and_parts (same_id c h.id) (same_kind kind h.kind) both).0) holds

  has_any_hold-own : has_any_hold (holds_of holds c) c ≡ has_any_hold holds c
  unfolding holds_of has_any_hold
  has_any_hold-own = list_any-wider (λ (h : Hold). same_id c h.id) (λ h. same_id c h.id) (λ h own. own) holds

  places_of-own : (kind : HoldKind) → places_of (holds_of holds c) c kind ≡ places_of holds c kind
  unfolding holds_of places_of
  places_of-own kind = ap (map (λ (h : Hold). h.place)) (filter-filter_wider (λ (h : Hold). same_id c h.id && same_kind kind h.kind) (λ h. same_id c h.id)
      (λ h both. (and_parts (same_id c h.id) (same_kind kind h.kind) both).0) holds)

-- ---- so they are answered alike

module _ (c : Id) (R S : Register) (same : SameOwn c R S) where
  pub same_round : (round : ℕ) → steps_in R.steps c round ≡ steps_in S.steps c round
  same_round round = sym (of_round_is R.steps c round) ∙ ap (λ (rows : List StepRow). of_round rows round) same.own_steps ∙ of_round_is S.steps c round

  pub same_present : present_steps R.steps c ≡ present_steps S.steps c
  same_present = λ i. if is_some_step (same_round 2 i) then same_round 2 i else same_round 1 i

  pub same_present_round : present_round R.steps c ≡ present_round S.steps c
  same_present_round = λ i. if is_some_step (same_round 2 i) then 2 else if is_some_step (same_round 1 i) then 1 else 0

  pub same_has_hold : (kind : HoldKind) (place : List ℕ) → has_hold R.holds c kind place ≡ has_hold S.holds c kind place
  same_has_hold kind place = sym (has_hold-own R.holds c kind place) ∙ ap (λ (holds : List Hold). has_hold holds c kind place) same.own_holds ∙ has_hold-own S.holds c kind place

  pub same_some_hold : (kind : HoldKind) → has_some_hold R.holds c kind ≡ has_some_hold S.holds c kind
  same_some_hold kind = sym (has_some_hold-own R.holds c kind) ∙ ap (λ (holds : List Hold). has_some_hold holds c kind) same.own_holds ∙ has_some_hold-own S.holds c kind

  pub same_any_hold : has_any_hold R.holds c ≡ has_any_hold S.holds c
  same_any_hold = sym (has_any_hold-own R.holds c) ∙ ap (λ (holds : List Hold). has_any_hold holds c) same.own_holds ∙ has_any_hold-own S.holds c

  pub same_places : (kind : HoldKind) → places_of R.holds c kind ≡ places_of S.holds c kind
  same_places kind = sym (places_of-own R.holds c kind) ∙ ap (λ (holds : List Hold). places_of holds c kind) same.own_holds ∙ places_of-own S.holds c kind

  same_held_at : (p : List ℕ) → held_at R.holds c p ≡ held_at S.holds c p
  same_held_at p = λ i. record { point = p; block = same_has_hold Block p i; control = same_has_hold Control p i; tag = same_has_hold Tag p i }

  pub same_held_among : (points : List (List ℕ)) → held_among R.holds c points ≡ held_among S.holds c points
  unfolding held_among
  same_held_among points = λ i. map (λ p. same_held_at p i) (filter (λ p. same_has_hold HeldOpen p i) (first_of_each points))
