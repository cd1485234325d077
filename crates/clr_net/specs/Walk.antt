-- Walks from a section over points that are not cut. A point's position plays no part.
use Rattle.std.specs.Prelude.{◌≡◌, ℕ, Bool, false, ◌&&◌, ◌||◌, IsTrue, List, Contains}
use Rattle.clr_net.specs.Name.{same_name}
use Rattle.clr_net.specs.Names.{has_name}
use Rattle.clr_net.specs.declared.point.PointRow.{PointRow}

-- whether a point joins two sections
abbrev pub joins : PointRow → List ℕ → List ℕ → Bool
joins p a b = (same_name p.from_end a && same_name p.to_end b)
    || (same_name p.to_end a && same_name p.from_end b)

-- a walk from the work section: it stays there, or a point that is not cut leads it on
pub data Walk (points : List PointRow) (cut : List (List ℕ)) (work : List ℕ) : List ℕ → Type 0 where
  stays : (s : List ℕ) → work ≡ s → Walk points cut work s
  goes_on : (p : PointRow) (a b : List ℕ) → Walk points cut work a → Contains points p
      → has_name cut p.name ≡ false → IsTrue (joins p a b) → Walk points cut work b

-- a set of sections that no point leaves but those that are cut
abbrev pub IsClosed : List PointRow → List (List ℕ) → (List ℕ → Bool) → Type 0
IsClosed points cut inside = (p : PointRow) → Contains points p → has_name cut p.name ≡ false
    → inside p.from_end ≡ inside p.to_end
