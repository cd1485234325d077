-- A hold that a clearance has is one of the list, and one of the list is had by its clearance.
use Rattle.std.proofs.Common.{◌≡◌, ℕ, true, false, List, Option, Some, None, Contains, is_some, refl, subst, ap}
use Rattle.clr_shelf.proofs.Keys.{equal}
use Rattle.clr_shelf.proofs.Members.{member-row_of, row_of-member}
use Rattle.clr_rules.specs.Prelude.{in_key_order, row_of, Hold, HoldKind, Id, hold_cmp, hold_cmp_total, has_hold, hold_key, hold_of}
use Rattle.clr_rules.specs.Hold.{same_hold}

pub hold_there : (holds : List Hold) (c : Id) (kind : HoldKind) (place : List ℕ) → has_hold holds c kind place ≡ true → Contains holds (hold_of c kind place)
hold_there holds c kind place has = at (row_of hold_cmp hold_key (hold_of c kind place) holds) refl
  where
    at : (o : Option Hold) → row_of hold_cmp hold_key (hold_of c kind place) holds ≡ o → Contains holds (hold_of c kind place)
    at None e = let none : false ≡ true = rw e at has in absurd (cc)
    at (Some h) e =
        let found = member-row_of hold_cmp hold_key hold_cmp_total (hold_of c kind place) h holds e in
        subst (λ (x : Hold). Contains holds x) (same_hold h (hold_of c kind place) (equal (hold_cmp h (hold_of c kind place)) found.1)) found.0

pub hold_had : (holds : List Hold) (h : Hold) → in_key_order hold_cmp hold_key holds ≡ true → Contains holds h → has_hold holds h.id h.kind h.place ≡ true
hold_had holds h ordered there = ap is_some (row_of-member hold_cmp hold_key hold_cmp_total h holds ordered there)
