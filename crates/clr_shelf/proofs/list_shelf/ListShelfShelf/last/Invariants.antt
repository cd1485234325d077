use Rattle.std.proofs.Common.{◌≡◌, filter, drop, None, option_copied}
use Rattle.std.specs.List.{last_or}
use Rattle.clr_shelf.proofs.list_shelf.ListShelfShelf.last.Given as goal

-- the last of what is left, or otherwise the last so far, is that of all
abbrev pub invariant-loop-row : goal.invariant-loop-row
invariant-loop-row g l =
    last_or (option_copied l.last) (filter (g.R.Row.is_in l.fn.group) (drop l.row-index l.fn.self.list.items))
    ≡ last_or None (filter (g.R.Row.is_in l.fn.group) l.fn.self.list.items)
