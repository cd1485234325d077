-- Lists that are kept in blocks: their items one after another, and how the blocks are filled.
use Rattle.std.specs.Prelude.{◌≡◌, ℕ, ◌+◌, ◌<◌, ◌≤◌, ◌≢◌, List, [], length, map, take}
use Rattle.std.specs.Prelude.{slice_index_or, flat_map}
use Rattle.clr_shelf.specs.declared.block.Block.{Block}

-- the items of each block
abbrev pub parts_of : {T : Type 0} → List (Block T) → List (List T)
parts_of blocks = map (λ block. block.items.items) blocks

-- the items of all parts, one part after another
abbrev pub joined : {T : Type 0} → List (List T) → List T
joined parts = flat_map (λ part. part) parts

-- how many items a part has; past the last it is none
abbrev pub size_at : {T : Type 0} → List (List T) → ℕ → ℕ
size_at parts k = length (slice_index_or parts k [])

-- No part has more than `size` items. A part that has any has with the one before it more than
-- that, so the parts are half full at least, and those that have none come last.
pub record IsSpread (size : ℕ) (sizes : ℕ → ℕ) : Type 0 where
  pub fits : (k : ℕ) → sizes k ≤ size
  pub filled : (k : ℕ) → 0 < sizes (k + 1) → size < sizes k + sizes (k + 1)

-- the same, but the part `at` may have one item too many
pub record IsCrowded (size at : ℕ) (sizes : ℕ → ℕ) : Type 0 where
  pub fits : (k : ℕ) → k ≢ at → sizes k ≤ size
  pub fits_here : sizes at ≤ size + 1
  pub before : (k : ℕ) → k + 1 ≡ at → 0 < sizes k
  pub filled : (k : ℕ) → 0 < sizes (k + 1) → size < sizes k + sizes (k + 1)

-- the same, but the part `at` may have one item too few
pub record IsThinned (size at : ℕ) (sizes : ℕ → ℕ) : Type 0 where
  pub fits : (k : ℕ) → sizes k ≤ size
  pub room_here : sizes at < size
  pub before : (k : ℕ) → k + 1 ≡ at → size ≤ sizes k + sizes at
  pub after : 0 < sizes (at + 1) → size ≤ sizes at + sizes (at + 1)
  pub filled : (k : ℕ) → k ≢ at → k + 1 ≢ at → 0 < sizes (k + 1)
      → size < sizes k + sizes (k + 1)

-- one item was moved from a part to another
pub record IsMove (from to : ℕ) (old new : ℕ → ℕ) : Type 0 where
  pub given : new from + 1 ≡ old from
  pub taken : new to ≡ old to + 1
  pub others : (k : ℕ) → k ≢ from → k ≢ to → new k ≡ old k

-- the part `at` and the next are one part in `together`
pub record IsJoin (at : ℕ) (apart together : ℕ → ℕ) : Type 0 where
  pub both : together at ≡ apart at + apart (at + 1)
  pub before : (k : ℕ) → k < at → together k ≡ apart k
  pub after : (k : ℕ) → at < k → together k ≡ apart (k + 1)

-- the first `used` parts have items, and for each of them it is known how many come before it
pub record HasStarts {T : Type 0} (used : ℕ) (starts : List ℕ) (parts : List (List T))
    : Type 0 where
  pub each_has : length starts ≡ length parts
  pub within : used ≤ length parts
  pub first : slice_index_or starts 0 0 ≡ 0
  pub some : (k : ℕ) → k < used → 0 < size_at parts k
  pub counts : (k : ℕ) → k < used → slice_index_or starts k 0 ≡ length (joined (take k parts))
