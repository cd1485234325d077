-- The index of a network, by the places of its rows: the ends of each point, and the ways out of
-- each section.
use Rattle.std.specs.Prelude.{◌≡◌, ◌==◌, ◌<◌, ◌≤◌, ◌⊎◌, ℕ, ◌+◌, Bool, true, false, nat_lt, List}
use Rattle.std.specs.Prelude.{length, filter, map, Contains}
use Rattle.std.specs.List.{list_any, position_or_len, slice_index_or}
use Rattle.std.specs.List.Sorted.{IsPartitionPoint}
use Rattle.clr_net.specs.Prelude.{same_name, PointRow}
use Rattle.clr_net.specs.declared.ways.Way.{Way}
use Rattle.clr_net.specs.declared.ways.Out.{Out}
use Rattle.clr_net.specs.declared.ways.Ends.{Ends}

-- the place of a name in a list, or its length where the name is not there
abbrev pub place_in : List (List ℕ) → List ℕ → ℕ
place_in names name = position_or_len (same_name name) names

-- the places of a point's ends among the sections' names
abbrev pub ends_in : List (List ℕ) → PointRow → Ends
ends_in names p = record { from = place_in names p.from_end; to = place_in names p.to_end }

-- the ends of the k-th point
abbrev pub ends_at : List Ends → ℕ → Ends
ends_at ends k = slice_index_or ends k (record { from = 0; to = 0 })

-- those that lead out of the i-th section
abbrev pub out_at : List Out → ℕ → List Out
out_at out i = filter (λ o. o.from == i) out

-- the ways out of the i-th section
abbrev pub ways_in : List Out → ℕ → List Way
ways_in out i = map (λ o. o.way) (out_at out i)

-- where those begin that lead out of the i-th section: after those out of the sections before it
abbrev pub IsStart : List Out → ℕ → ℕ → Type 0
IsStart out i start = (start ≤ length out)
    × IsPartitionPoint (λ o. nat_lt o.from i ≡ true) (λ o. nat_lt o.from i ≡ false) out start

-- where the ways out of each of n sections begin, and where those out of the last one end
pub record AreStarts (n : ℕ) (out : List Out) (starts : List ℕ) : Type 0 where
  pub count : length starts ≡ n + 1
  pub each : (i : ℕ) → i ≤ n → IsStart out i (slice_index_or starts i 0)

-- the way over the k-th point
abbrev pub way : ℕ → ℕ → Way
way k to = record { point = k; to = to }

-- the places of ends are below n
abbrev pub AreBelow : ℕ → Ends → Type 0
AreBelow n e = (e.from < n) × (e.to < n)

-- each way leads over one of the first n points between its two ends, and each of these points is a
-- way at both its ends
pub record IsAround (ends : List Ends) (n : ℕ) (around : ℕ → List Way) : Type 0 where
  pub real : (i : ℕ) (w : Way) → Contains (around i) w → (w.point < n)
      × ((ends_at ends w.point ≡ record { from = i; to = w.to })
      ⊎ (ends_at ends w.point ≡ record { from = w.to; to = i }))
  pub whole : (k : ℕ) → k < n
      → Contains (around (ends_at ends k).from) (way k (ends_at ends k).to)
      × Contains (around (ends_at ends k).to) (way k (ends_at ends k).from)

-- whether a place is among these
abbrev pub has_place : List ℕ → ℕ → Bool
has_place places i = list_any (λ place. i == place) places

-- a walk over the places of sections, along ways over points whose places are not among the cuts
pub data PlaceWalk (around : ℕ → List Way) (cuts : List ℕ) (start : ℕ) : ℕ → Type 0 where
  begins : (i : ℕ) → start ≡ i → PlaceWalk around cuts start i
  follows : (i : ℕ) (w : Way) → PlaceWalk around cuts start i → Contains (around i) w
      → has_place cuts w.point ≡ false → PlaceWalk around cuts start w.to

-- each way leads to one of n sections over one of m points
abbrev pub WaysFit : (ℕ → List Way) → ℕ → ℕ → Type 0
WaysFit around n m = (i : ℕ) (w : Way) → Contains (around i) w → (w.point < m) × (w.to < n)
