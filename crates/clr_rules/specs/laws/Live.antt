-- What live means, as laws: current reaches the sections that closed points join to a source, and
-- no others.
use Rattle.std.specs.Prelude.{◌≡◌, ◌↔◌, ℕ, Bool, true, false, IsTrue, List, All, Contains}
use Rattle.clr_rules.specs.Prelude.{in_fence, Grid, IsNetwork, PointRow, SectionRow, Task}
use Rattle.clr_rules.specs.Prelude.{PointState}
use Rattle.clr_net.specs.Walk.{Walk}
use Rattle.clr_order.specs.Isolating.{IsSoundOrder}
use Rattle.clr_rules.specs.Live.{IsLive, is_closed_point, is_live, open_points}

-- each source of the network is live
abbrev pub SourcesAreLive : Type 0
SourcesAreLive =
    (g : Grid) → IsNetwork g → (states : List PointState) (source : SectionRow)
    → Contains g.sections source → source.source ≡ true
    → is_live g states source.name ≡ true

-- a closed point carries it on: either both of its ends are live, or neither is
abbrev pub ClosedPointsCarryOn : Type 0
ClosedPointsCarryOn =
    (g : Grid) → IsNetwork g → (states : List PointState) (p : PointRow) → Contains g.points p
    → is_closed_point states p.name ≡ true
    → is_live g states p.from_end ≡ is_live g states p.to_end

-- a set of sections that has each source and that no closed point leaves
pub record CarriesOn (g : Grid) (states : List PointState) (inside : List ℕ → Bool) : Type 0 where
  pub sources : (source : SectionRow) → Contains g.sections source → source.source ≡ true
      → inside source.name ≡ true
  pub closed : (p : PointRow) → Contains g.points p → is_closed_point states p.name ≡ true
      → inside p.from_end ≡ inside p.to_end

-- the live sections are the least such set: nothing is live without a cause
abbrev pub LiveIsLeast : Type 0
LiveIsLeast =
    (g : Grid) → IsNetwork g → (states : List PointState) (inside : List ℕ → Bool)
    → CarriesOn g states inside
    → (s : List ℕ) → is_live g states s ≡ true → inside s ≡ true

-- a section is live exactly where a walk leads to it from a source over points that are not open
abbrev pub LiveIsWalks : Type 0
LiveIsWalks = (g : Grid) → IsNetwork g → (states : List PointState) (s : List ℕ)
    → (is_live g states s ≡ true)
    ↔ ((source : SectionRow) × Contains g.sections source × (source.source ≡ true)
    × Walk g.points (open_points g states) source.name s)

-- THE TEST IS TRUE exactly of the sections that are live
abbrev pub LiveIsClosedWalks : Type 0
LiveIsClosedWalks = (g : Grid) → IsNetwork g → (states : List PointState) (s : List ℕ)
    → (is_live g states s ≡ true) ↔ IsLive g states s

-- while every point of a sound order is open, no section of its fence is live
abbrev pub SoundOrdersKeepFencesDead : Type 0
SoundOrdersKeepFencesDead =
    (g : Grid) → IsNetwork g
    → (states : List PointState) (work : List ℕ) (points : List (List ℕ)) (tasks : List Task)
    → IsSoundOrder g work points tasks → All (λ p. is_closed_point states p ≡ false) points
    → (s : List ℕ) → IsTrue (in_fence g work points s) → is_live g states s ≡ false
