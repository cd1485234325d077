-- What a list in blocks is to its callers: its items, and how many may be put.
use Rattle.std.specs.Prelude.{ℕ, ◌-◌, ◌*◌, ◌/◌, List, vec_len}
use Rattle.clr_shelf.specs.Blocks.{joined, parts_of}
use Rattle.clr_shelf.specs.declared.block.TheConstants.{SIZE}
use Rattle.clr_shelf.specs.declared.blocks.Blocks.{Blocks}

abbrev pub items_of : {T : Type 0} → Blocks T → List T
items_of list = joined (parts_of list.blocks.items)

-- Parts are half full at least, so the items that fill half of the blocks find room in any case.
abbrev pub room_of : {T : Type 0} → Blocks T → ℕ
room_of list = vec_len list.blocks / 2 * SIZE - list.total
