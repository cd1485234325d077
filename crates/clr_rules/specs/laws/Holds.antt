-- Which hold keeps a clearance from closing a point, as laws.
use Rattle.std.specs.Prelude.{◌≡◌, ◌↔◌, ℕ, true, false, List, All, Contains, None, Some}
use Rattle.clr_rules.specs.Holds.{hindering_hold, hinders, stands_before}
use Rattle.clr_rules.specs.Prelude.{Hold, Id}

-- a hold of the list that keeps the clearance from closing the point, and the least that does, by
-- the clearance and then by the kind: no other comes before it
pub record IsLeastHindering (holds : List Hold) (c : Id) (p : List ℕ) (h : Hold) : Type 0 where
  pub among : Contains holds h
  pub hindering : hinders c p h ≡ true
  pub least : All (λ other. hinders c p other ≡ true → stands_before other h ≡ false) holds

-- THE LEAST HOLD IS NAMED that keeps a clearance from closing a point
abbrev pub LeastHoldIsNamed : Type 0
LeastHoldIsNamed = (holds : List Hold) (c : Id) (p : List ℕ) (h : Hold)
    → hindering_hold holds c p ≡ Some h → IsLeastHindering holds c p h

-- and none is named exactly where none keeps it from that
abbrev pub NoneIsNamedWhereNoneHinders : Type 0
NoneIsNamedWhereNoneHinders = (holds : List Hold) (c : Id) (p : List ℕ)
    → (hindering_hold holds c p ≡ None) ↔ All (λ h. hinders c p h ≡ false) holds
