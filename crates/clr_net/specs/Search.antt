-- The search of a fence, by places: which sections are marked and are in the queue, what was
-- found, and the points there.
use Rattle.std.specs.Prelude.{◌≡◌, ◌<◌, ◌+◌, ◌-◌, ◌⊎◌, ◌↔◌, ℕ, Bool, true, false, not, List, []}
use Rattle.std.specs.Prelude.{◌∷◌, ◌++◌, length, map, count_by, Contains, slice_index_or}
use Rattle.clr_net.specs.Prelude.{in_fence, Grid, section_names, has_name}
use Rattle.clr_net.specs.Index.{PlaceWalk, has_place}
use Rattle.clr_net.specs.declared.ways.Way.{Way}

-- whether the section at a place is marked
abbrev pub is_marked : List Bool → ℕ → Bool
is_marked marked i = slice_index_or marked i false

-- of n sections, found is exactly what a walk over points that are not cut leads to from the start
abbrev pub Finds : (ℕ → List Way) → ℕ → List ℕ → ℕ → List ℕ → Type 0
Finds around n cuts start found = (i : ℕ) → i < n
    → (has_place found i ≡ true) ↔ PlaceWalk around cuts start i

-- the work that is left, where the first ones of the queue were looked at: what waits, and what is
-- not marked yet
abbrev pub work_left : List Bool → List ℕ → ℕ → ℕ
work_left marked queue looked_at = count_by not marked + (length queue - looked_at)

-- the queue has exactly the sections that are marked
abbrev pub IsQueued : List Bool → List ℕ → Type 0
IsQueued marked queue = (i : ℕ) → (has_place queue i ≡ true) ↔ (is_marked marked i ≡ true)

-- the ways over points that are not cut were followed: what they lead to is marked, and nothing
-- else; what is newly marked comes after what was in the queue
pub record Follows (ways : List Way) (cuts : List ℕ) (old_marked : List Bool) (old_queue : List ℕ)
    (marked : List Bool) (queue : List ℕ) : Type 0 where
  pub kept : (i : ℕ) → is_marked old_marked i ≡ true → is_marked marked i ≡ true
  pub led : (w : Way) → Contains ways w → has_place cuts w.point ≡ false → is_marked marked w.to
      ≡ true
  pub sound : (i : ℕ) → is_marked marked i ≡ true → (is_marked old_marked i ≡ true)
      ⊎ ((w : Way) × Contains ways w × (has_place cuts w.point ≡ false) × (w.to ≡ i))
  pub queued : IsQueued old_marked old_queue → IsQueued marked queue
  pub behind : (more : List ℕ) × (queue ≡ old_queue ++ more)
  pub once : count_by not marked + length queue ≡ count_by not old_marked + length old_queue

-- the places are those of the sections of the fence
abbrev pub ListsFence : Grid → List ℕ → List (List ℕ) → List ℕ → Type 0
ListsFence g work cut places = (i : ℕ) → i < length g.sections → has_place places i
    ≡ in_fence g work cut (slice_index_or (section_names g.sections) i [])

-- the places are those of the points that are cut
abbrev pub ListsCut : List (List ℕ) → List (List ℕ) → List ℕ → Type 0
ListsCut points cut places = (k : ℕ) → k < length points → has_place places k
    ≡ has_name cut (slice_index_or points k [])

-- the places of the points over which ways lead out of these sections
abbrev pub points_around : (ℕ → List Way) → List ℕ → List ℕ
points_around around [] = []
points_around around (i ∷ places) = map (λ w. w.point) (around i)
    ++ points_around around places
