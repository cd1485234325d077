-- LIVE SECTIONS: those to which closed points lead from a source; and the test of it that computes.
use Rattle.std.specs.Prelude.{◌≡◌, ℕ, Bool, true, false, not, ◌&&◌, IsTrue, List, Contains, filter}
use Rattle.std.specs.Prelude.{Option, None, Some}
use Rattle.clr_rules.specs.Prelude.{list_any, in_fence, Grid, point_names, PointRow, Position}
use Rattle.clr_rules.specs.Prelude.{SectionRow, PointState, position_of}
use Rattle.clr_net.specs.Walk.{joins}
use Rattle.clr_net.specs.declared.point.Position.TheVariants.{Opened, Closed}

-- a point without a state feeds nothing; in a good register each point of the network has one
abbrev pub is_shut : Option Position → Bool
is_shut None = false
is_shut (Some Opened) = false
is_shut (Some Closed) = true

-- whether a point is closed
abbrev pub is_closed_point : List PointState → List ℕ → Bool
is_closed_point states p = is_shut (position_of states p)

-- a walk from a source, each point of which is closed
pub data ClosedWalk (points : List PointRow) (states : List PointState) (source : List ℕ) : List ℕ
    → Type 0 where
  at_source : (s : List ℕ) → source ≡ s → ClosedWalk points states source s
  over_closed : (p : PointRow) (a b : List ℕ) → ClosedWalk points states source a
      → Contains points p → is_closed_point states p.name ≡ true → IsTrue (joins p a b)
      → ClosedWalk points states source b

-- A LIVE SECTION: closed points lead to it from a source
abbrev pub IsLive : Grid → List PointState → List ℕ → Type 0
IsLive g states s = (source : SectionRow) × Contains g.sections source × (source.source ≡ true)
    × ClosedWalk g.points states source.name s

-- The test of it. A walk over closed points is one that crosses no other point: what it reaches is
-- the fence of its source, cut at the points that are not closed. LiveLaws has that it tests
-- IsLive.

-- the points that are not closed: over these nothing is fed
unfoldable pub open_points : Grid → List PointState → List (List ℕ)
open_points g states = filter (λ p. not (is_closed_point states p)) (point_names g.points)

-- whether a source feeds a section: a walk leads from it over closed points
abbrev pub feeds : Grid → List PointState → List ℕ → SectionRow → Bool
feeds g states s source = source.source && in_fence g source.name (open_points g states) s

-- whether a section is live, as a test
unfoldable pub is_live : Grid → List PointState → List ℕ → Bool
is_live g states s = list_any (feeds g states s) g.sections
