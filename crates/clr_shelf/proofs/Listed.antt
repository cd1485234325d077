-- A list in blocks: what is read, put, taken or written at a place of the block in which it is.
use Rattle.std.proofs.Common.{◌≡◌, ℕ, ◌+◌, ◌-◌, ◌*◌, ◌/◌, ◌<◌, ◌≤◌, List, [], length, get_or, set, take, zero, suc, vec_len, inl, inr, sym, ◌∙◌, ap, subst, arith, insert, remove}
use Rattle.std.proofs.lemmas.Bool.{cases_eq, cases_lt}
use Rattle.std.proofs.lemmas.List.{get_or_read, length-set}
use Rattle.std.proofs.lemmas.List.Concat.{get_or-flat_map}
use Rattle.std.proofs.lemmas.List.Edits.{length-insert, length-remove}
use Rattle.clr_shelf.specs.declared.block.Block.{Block}
use Rattle.clr_shelf.specs.declared.block.TheConstants.{SIZE}
use Rattle.clr_shelf.specs.declared.blocks.Blocks.{Blocks}
use Rattle.clr_shelf.specs.Blocks.{joined, parts_of, size_at, IsSpread, IsCrowded, IsThinned, HasStarts}
use Rattle.clr_shelf.specs.Items.{items_of}
use Rattle.clr_shelf.proofs.Parts.{parts-edit, part_read, length-parts, joined-insert, joined-remove, joined-set, size-set_same, size-set_other, parts-set}
use Rattle.clr_shelf.proofs.Spread.{crowded, thinned}
use Rattle.clr_shelf.proofs.Starts.{kept_starts, kept_begin, last_is_spare, counted_more, counted_le, counted_all}

-- what comes before a block that has items, or before the first
block_begins : {T : Type 0} (list : Blocks T) (k : ℕ) → (0 < k → k < list.used)
    → get_or list.starts.items k 0 ≡ length (joined (take k (parts_of list.blocks.items)))
block_begins list zero here = list.begun.first
block_begins list (suc k) here = list.begun.counts (suc k) (here (omega arith))

module _ {T : Type 0} (list : Blocks T) (k place start : ℕ) (block : Block T)
    (within : k < vec_len list.blocks) (here : 0 < k → k < list.used) (read : block ≡ get_or list.blocks.items k block)
    (begins : start ≡ get_or list.starts.items k start)
    (from : get_or list.starts.items k 0 ≤ place) where
  near : k < length list.blocks.items
  near = omega (arith, within, list.blocks.ok.0)

  near_part : k < length (parts_of list.blocks.items)
  near_part = omega (arith, near, length-parts list.blocks.items)

  begins_at : start ≡ get_or list.starts.items k 0
  begins_at = get_or_read list.starts.items k start
      (omega (arith, near_part, list.begun.each_has)) begins 0

  counted : start ≡ length (joined (take k (parts_of list.blocks.items)))
  counted = begins_at ∙ block_begins list k here

  whole : length (joined (take k (parts_of list.blocks.items))) + (place - start) ≡ place
  whole = omega (arith, from, begins_at, counted)

  size : size_at (parts_of list.blocks.items) k ≡ length block.items.items
  size = ap length (part_read list.blocks.items k block near read)

  -- ---- what is read

  pub item_read : (x : T) → place < get_or list.starts.items k 0 + size_at
      (parts_of list.blocks.items) k
      → x ≡ get_or block.items.items (place - start) x → x ≡ get_or (items_of list) place x
  item_read x to is =
      let parts = parts_of list.blocks.items in
      let part = part_read list.blocks.items k block near read in
      is ∙ ap (λ (xs : List T). get_or xs (place - start) x) (sym part)
      ∙ sym (get_or-flat_map (λ (xs : List T). xs) parts k (place - start) [] x near_part
      (omega (arith, to, from, begins_at)))
      ∙ ap (λ n. get_or (joined parts) n x) whole

  -- ---- a put

  module _ (after : Block T) (x : T)
      (to : place ≤ get_or list.starts.items k 0 + size_at (parts_of list.blocks.items) k)
      (is : after.items.items ≡ insert block.items.items (place - start) x) where
    pub put_items : joined (parts_of (set list.blocks.items k after))
        ≡ insert (items_of list) place x
    put_items =
        let parts = parts_of list.blocks.items in
        ap joined (parts-edit (λ (xs : List T). insert xs (place - start) x) list.blocks.items k
        block after near read is)
        ∙ joined-insert parts k (place - start) x near_part (omega (arith, to, from, begins_at))
        ∙ ap (λ n. insert (joined parts) n x) whole

    pub put_crowds : IsCrowded SIZE k (size_at (parts_of (set list.blocks.items k after)))
    put_crowds =
        let parts = parts_of list.blocks.items in
        let more : length after.items.items ≡ size_at parts k + 1 =
        ap length is ∙ length-insert block.items.items (place - start) x
        (omega (arith, to, from, begins_at, size)) ∙ ap (λ n. n + 1) (sym size) in
        rw (parts-set list.blocks.items k after)
        (crowded SIZE (size_at parts) (size_at (set parts k after.items.items)) k list.spread
        (λ later. list.begun.some k (here later))
        (size-set_same parts k after.items.items near_part ∙ more)
        (λ j other. size-set_other parts k after.items.items j other))

  -- ---- a take

  module _ (after : Block T)
      (to : place < get_or list.starts.items k 0 + size_at (parts_of list.blocks.items) k)
      (is : after.items.items ≡ remove block.items.items (place - start)) where
    pub take_items : joined (parts_of (set list.blocks.items k after))
        ≡ remove (items_of list) place
    take_items =
        let parts = parts_of list.blocks.items in
        ap joined (parts-edit (λ (xs : List T). remove xs (place - start)) list.blocks.items k
        block after near read is)
        ∙ joined-remove parts k (place - start) near_part (omega (arith, to, from, begins_at))
        ∙ ap (λ n. remove (joined parts) n) whole

    pub take_thins : IsThinned SIZE k (size_at (parts_of (set list.blocks.items k after)))
    take_thins =
        let parts = parts_of list.blocks.items in
        let less : length after.items.items + 1 ≡ size_at parts k =
        ap (λ (xs : List T). length xs + 1) is ∙ length-remove block.items.items (place - start)
        (omega (arith, to, from, begins_at, size)) ∙ sym size in
        rw (parts-set list.blocks.items k after)
        (thinned SIZE (size_at parts) (size_at (set parts k after.items.items)) k list.spread
        (ap (λ n. n + 1) (size-set_same parts k after.items.items near_part) ∙ less)
        (λ j other. size-set_other parts k after.items.items j other))

  -- ---- a write

  module _ (after : Block T) (x : T)
      (to : place < get_or list.starts.items k 0 + size_at (parts_of list.blocks.items) k)
      (is : after.items.items ≡ set block.items.items (place - start) x) where
    pub write_items : joined (parts_of (set list.blocks.items k after))
        ≡ set (items_of list) place x
    write_items =
        let parts = parts_of list.blocks.items in
        ap joined (parts-edit (λ (xs : List T). set xs (place - start) x) list.blocks.items k
        block after near read is)
        ∙ joined-set parts k (place - start) x near_part (omega (arith, to, from, begins_at))
        ∙ ap (λ n. set (joined parts) n x) whole

    write_sizes : (j : ℕ) → size_at (parts_of list.blocks.items) j
        ≡ size_at (parts_of (set list.blocks.items k after)) j
    write_sizes j =
        let parts = parts_of list.blocks.items in
        let same : length after.items.items ≡ size_at parts k =
        ap length is ∙ length-set block.items.items (place - start) x ∙ sym size in
        rw (parts-set list.blocks.items k after) (elim (cases_eq j k) [
          | inl here ↦ subst (λ n. size_at parts n ≡ size_at (set parts k after.items.items) n)
              (sym here)
              (sym (size-set_same parts k after.items.items near_part ∙ same))
          | inr other ↦ sym (size-set_other parts k after.items.items j other)
        ])

    pub write_spreads : IsSpread SIZE (size_at (parts_of (set list.blocks.items k after)))
    write_spreads = subst (λ (sizes : ℕ → ℕ). IsSpread SIZE sizes) (λ i j. write_sizes j i)
        list.spread

    pub write_begins : HasStarts list.used list.starts.items
        (parts_of (set list.blocks.items k after))
    write_begins = kept_starts list.used list.used list.starts.items
        (parts_of list.blocks.items) (parts_of (set list.blocks.items k after)) list.begun
        (length-parts list.blocks.items ∙ sym (length-set list.blocks.items k after)
        ∙ sym (length-parts (set list.blocks.items k after))) (λ j sooner. write_sizes j)
        (omega arith)

    pub write_ends : size_at (parts_of (set list.blocks.items k after)) list.used ≡ 0
    write_ends = sym (write_sizes list.used) ∙ list.ended

-- where there is room, the last block has nothing
pub spare_last : {T : Type 0} (list : Blocks T) → list.total < vec_len list.blocks / 2 * SIZE
    → size_at (parts_of list.blocks.items) (vec_len list.blocks - 1) ≡ 0
spare_last list room =
    let long : length (parts_of list.blocks.items) ≡ vec_len list.blocks =
    length-parts list.blocks.items ∙ sym list.blocks.ok.0 in
    let fits : length (joined (parts_of list.blocks.items))
    < length (parts_of list.blocks.items) / 2 * SIZE =
    rw (long, ← list.counted) room in
    subst (λ n. size_at (parts_of list.blocks.items) (n - 1) ≡ 0) long
    (last_is_spare SIZE (parts_of list.blocks.items) list.spread fits)

-- after an edit of a block, and a balance that kept the sizes of the blocks before its neighbours,
-- the starts of those are right
module _ {T : Type 0} (list : Blocks T) (k : ℕ) (here : 0 < k → k < list.used) (edited : Block T)
    (settled : List (Block T)) (long : length settled ≡ length list.blocks.items)
    (before : (j : ℕ) → j + 1 < k → size_at (parts_of settled) j
    ≡ size_at (parts_of (set list.blocks.items k edited)) j) where
  kept_long : length (parts_of list.blocks.items) ≡ length (parts_of settled)
  kept_long = length-parts list.blocks.items ∙ sym long ∙ sym (length-parts settled)

  kept_sizes : (j : ℕ) → j < k - 1 → size_at (parts_of list.blocks.items) j
      ≡ size_at (parts_of settled) j
  kept_sizes j sooner = sym (before j (omega arith)
      ∙ ap (λ (parts : List (List T)). size_at parts j) (parts-set list.blocks.items k edited)
      ∙ size-set_other (parts_of list.blocks.items) k edited.items.items j (omega arith))

  kept_used : 0 < k - 1 → k - 1 < list.used
  kept_used later = omega (arith, here (omega arith))

  pub kept_begun : HasStarts (k - 1) list.starts.items (parts_of settled)
  kept_begun = kept_starts list.used (k - 1) list.starts.items (parts_of list.blocks.items)
      (parts_of settled) list.begun kept_long kept_sizes
      (elim (cases_lt 0 k) [
        | inl later ↦ omega (arith, here later)
        | inr first ↦ omega arith
      ])

  pub kept_begins : get_or list.starts.items (k - 1) 0
      ≡ length (joined (take (k - 1) (parts_of settled)))
  kept_begins = kept_begin list.used (k - 1) list.starts.items (parts_of list.blocks.items)
      (parts_of settled) list.begun kept_long kept_sizes kept_used

module _ {T : Type 0} (list : Blocks T) (k : ℕ) (within : k < list.used) where
  in_parts : k < length (parts_of list.blocks.items)
  in_parts = omega (arith, within, list.begun.within)

  pub in_blocks : k < vec_len list.blocks
  in_blocks = omega (arith, in_parts, list.blocks.ok.0, length-parts list.blocks.items)

  -- a block ends where the next begins, or where the list ends
  pub next_begins : k + 1 < list.used → get_or list.starts.items k 0
      + size_at (parts_of list.blocks.items) k ≡ get_or list.starts.items (k + 1) 0
  next_begins more = omega (
    arith,
    list.begun.counts k within,
    list.begun.counts (k + 1) more,
    counted_more (parts_of list.blocks.items) k in_parts,
  )

  pub last_ends : k + 1 ≡ list.used → get_or list.starts.items k 0
      + size_at (parts_of list.blocks.items) k ≡ length (items_of list)
  last_ends last =
      let none : size_at (parts_of list.blocks.items) (k + 1) ≡ 0 =
      subst (λ n. size_at (parts_of list.blocks.items) n ≡ 0) (sym last) list.ended in
      omega (
        arith,
        list.begun.counts k within,
        counted_more (parts_of list.blocks.items) k in_parts,
        counted_all SIZE (parts_of list.blocks.items) list.spread (k + 1) none,
      )

  pub block_ends : get_or list.starts.items k 0 + size_at (parts_of list.blocks.items) k
      ≤ length (items_of list)
  block_ends = omega (
    arith,
    list.begun.counts k within,
    counted_more (parts_of list.blocks.items) k in_parts,
    counted_le (parts_of list.blocks.items) (k + 1),
  )

  pub block_inside : get_or list.starts.items k 0 < length (items_of list)
  block_inside = omega (arith, block_ends, list.begun.some k within)

pub first_begins : {T : Type 0} (list : Blocks T) (k : ℕ) → k ≡ 0
    → get_or list.starts.items k 0 ≡ 0
first_begins list k is = ap (λ n. get_or list.starts.items n 0) is ∙ list.begun.first

-- a list that has items has them in blocks
pub some_used : {T : Type 0} (list : Blocks T) → 0 < length (items_of list) → 0 < list.used
some_used list some = elim (cases_lt 0 list.used) [
  | inl used ↦ used
  | inr unused ↦
      let none : size_at (parts_of list.blocks.items) 0 ≡ 0 =
      subst (λ n. size_at (parts_of list.blocks.items) n ≡ 0) (omega arith) list.ended in
      let all = counted_all SIZE (parts_of list.blocks.items) list.spread 0 none in
      absurd (omega (arith, all, some))
]
