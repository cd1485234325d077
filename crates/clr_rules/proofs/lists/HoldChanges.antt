-- A hold that is put or taken: what each clearance then has, kind by kind and place by place.
use Rattle.std.proofs.Common.{◌≡◌, ℕ, Bool, true, false, not, ◌&&◌, ◌||◌, nat_eq, List, find, Some, refl, sym, ◌∙◌, ap, ◌⊎◌, inl, inr, is_eq}
use Rattle.clr_rules.proofs.Common.{and_from, and_parts, or_cases, tied_itself, same_Some, same_name, with_row, without_row, Hold, HoldKind, HeldOpen, Id, same_id, hold_cmp, hold_cmp_total, has_hold}
use Rattle.clr_rules.proofs.Common.{hold_key, hold_of, same_kind, one_id, own_id}
use Rattle.clr_net.proofs.Walks.{one_name, same_itself, same_tests}
use Rattle.clr_shelf.proofs.Keys.{equal, same_number}
use Rattle.clr_rules.specs.laws.Edits.{is_hold}
use Rattle.clr_rules.specs.Hold.{same_hold}
use Rattle.clr_rules.specs.HoldKind.{all_hold_kinds, kind_cmp, kind_cmp_total, kind_place}
use Rattle.clr_rules.proofs.edits.EditReading.{has_hold-put, has_hold-taken}

by_place : (kind : HoldKind) → find (λ k. nat_eq (kind_place k) (kind_place kind)) all_hold_kinds ≡ Some kind
by_place HeldOpen = refl
by_place _ = refl

-- kinds that are the same are one
pub one_kind : (a b : HoldKind) → same_kind a b ≡ true → a ≡ b
one_kind a b same = same_Some a b
    (sym (by_place a) ∙ ap (λ n. find (λ k. nat_eq (kind_place k) n) all_hold_kinds) (same_number (kind_place a) (kind_place b) (equal (kind_cmp a b) same)) ∙ by_place b)

pub kind_itself : (a : HoldKind) → same_kind a a ≡ true
kind_itself a = ap is_eq (tied_itself kind_cmp_total a)

-- whether this is the hold of a kind at a place
abbrev pub is_there : HoldKind → List ℕ → HoldKind → List ℕ → Bool
is_there of p kind q = same_kind of kind && same_name p q

is_hold_of : (c : Id) (of : HoldKind) (p : List ℕ) (d : Id) (kind : HoldKind) (q : List ℕ) → is_hold (hold_of c of p) d kind q ≡ (same_id c d && is_there of p kind q)
is_hold_of c of p d kind q = same_tests (is_hold (hold_of c of p) d kind q) (same_id c d && is_there of p kind q) words back
  where
    words : is_hold (hold_of c of p) d kind q ≡ true → (same_id c d && is_there of p kind q) ≡ true
    words tied =
        let one = same_hold (hold_of c of p) (hold_of d kind q) (equal (hold_cmp (hold_of c of p) (hold_of d kind q)) tied) in
        and_from (same_id c d) (is_there of p kind q) (ap (λ h. same_id c (Hold.id h)) (sym one) ∙ own_id c)
        (and_from (same_kind of kind) (same_name p q) (ap (λ h. same_kind of (Hold.kind h)) (sym one) ∙ kind_itself of)
        (ap (λ h. same_name p (Hold.place h)) (sym one) ∙ same_itself p))

    back : (same_id c d && is_there of p kind q) ≡ true → is_hold (hold_of c of p) d kind q ≡ true
    back all =
        let parts = and_parts (same_id c d) (is_there of p kind q) all in
        let here = and_parts (same_kind of kind) (same_name p q) parts.1 in
        rw (← one_id c d parts.0, ← one_kind of kind here.0, ← one_name p q here.1) (ap is_eq (tied_itself hold_cmp_total (hold_of c of p)))

module _ (c : Id) (of : HoldKind) (p : List ℕ) (holds : List Hold) where
  -- the clearance's own
  pub own_put : (kind : HoldKind) (q : List ℕ) → has_hold (with_row hold_cmp hold_key (hold_of c of p) holds) c kind q ≡ (is_there of p kind q || has_hold holds c kind q)
  own_put kind q = has_hold-put (hold_of c of p) holds c kind q ∙ ap (λ b. b || has_hold holds c kind q) (is_hold_of c of p c kind q ∙ ap (λ b. b && is_there of p kind q) (own_id c))

  pub own_taken : (kind : HoldKind) (q : List ℕ)
      → has_hold (without_row hold_cmp hold_key (hold_of c of p) holds) c kind q ≡ (not (is_there of p kind q) && has_hold holds c kind q)
  own_taken kind q = has_hold-taken (hold_of c of p) holds c kind q ∙ ap (λ b. not b && has_hold holds c kind q) (is_hold_of c of p c kind q ∙ ap (λ b. b && is_there of p kind q) (own_id c))

  -- and those of others, which stay
  pub others_hold_put : (d : Id) → same_id c d ≡ false → (kind : HoldKind) (q : List ℕ)
      → has_hold (with_row hold_cmp hold_key (hold_of c of p) holds) d kind q ≡ has_hold holds d kind q
  others_hold_put d differs kind q =
      has_hold-put (hold_of c of p) holds d kind q ∙ ap (λ b. b || has_hold holds d kind q) (is_hold_of c of p d kind q ∙ ap (λ b. b && is_there of p kind q) differs)

  pub others_hold_taken : (d : Id) → same_id c d ≡ false → (kind : HoldKind) (q : List ℕ)
      → has_hold (without_row hold_cmp hold_key (hold_of c of p) holds) d kind q ≡ has_hold holds d kind q
  others_hold_taken d differs kind q =
      has_hold-taken (hold_of c of p) holds d kind q ∙ ap (λ b. not b && has_hold holds d kind q) (is_hold_of c of p d kind q ∙ ap (λ b. b && is_there of p kind q) differs)

  -- what is there after a put was there, or is what was put
  pub was_or_put : (d : Id) (kind : HoldKind) (q : List ℕ) → has_hold (with_row hold_cmp hold_key (hold_of c of p) holds) d kind q ≡ true
      → (has_hold holds d kind q ≡ true) ⊎ ((d ≡ c) × (kind ≡ of) × (q ≡ p))
  was_or_put d kind q has = at (or_cases (is_hold (hold_of c of p) d kind q) (has_hold holds d kind q) (sym (has_hold-put (hold_of c of p) holds d kind q) ∙ has))
    where
      at : (is_hold (hold_of c of p) d kind q ≡ true) ⊎ (has_hold holds d kind q ≡ true) → (has_hold holds d kind q ≡ true) ⊎ ((d ≡ c) × (kind ≡ of) × (q ≡ p))
      at (inl is) =
          let parts = and_parts (same_id c d) (is_there of p kind q) (sym (is_hold_of c of p d kind q) ∙ is) in
          let here = and_parts (same_kind of kind) (same_name p q) parts.1 in
          inr (sym (one_id c d parts.0), sym (one_kind of kind here.0), sym (one_name p q here.1))
      at (inr was) = inl was

  -- what is there after a take was there
  pub was_there : (d : Id) (kind : HoldKind) (q : List ℕ) → has_hold (without_row hold_cmp hold_key (hold_of c of p) holds) d kind q ≡ true → has_hold holds d kind q ≡ true
  was_there d kind q has = (and_parts (not (is_hold (hold_of c of p) d kind q)) (has_hold holds d kind q) (sym (has_hold-taken (hold_of c of p) holds d kind q) ∙ has)).1
