use Rattle.std.proofs.Common.{sym}
use Rattle.clr_shelf.proofs.KeyOrder.{in_key_order-without_row}
use Rattle.clr_shelf.proofs.Reading.{without_row-missing}
use Rattle.clr_shelf.proofs.Places.{row_at, none_in_gap, remove_at}
use Rattle.clr_shelf.proofs.list_shelf.ListShelfShelf.take.Goals as goal

pub returns-in-Ok-clause-given : goal.returns-in-Ok-clause-given
returns-in-Ok-clause-given g c = sym (row_at g.R.Row.key_cmp g.R.Row.key_of g.met.R.Row.key_order c.args.key.now c.args.self.now.list.items c.in-Ok.place c.remove.result
    c.args.self.now.in_order c.in-Ok.ensures.found c.remove.ensures.value)

pub returns-in-Ok-clause-rows : goal.returns-in-Ok-clause-rows
returns-in-Ok-clause-rows g c =
    let found = c.in-Ok.ensures.found in
    rw c.remove.ensures.items (remove_at g.R.Row.key_cmp g.R.Row.key_of g.met.R.Row.key_order c.args.key.now c.args.self.now.list.items c.in-Ok.place
    c.args.self.now.in_order found.in_range found.has_key)

pub invariant_of-self : goal.invariant_of-self
invariant_of-self g c =
    let found = c.in-Ok.ensures.found in
    let rows = c.args.self.now.list.items in
    let left = remove_at g.R.Row.key_cmp g.R.Row.key_of g.met.R.Row.key_order c.args.key.now rows c.in-Ok.place c.args.self.now.in_order found.in_range found.has_key in
    record { in_order = rw (c.remove.ensures.items, left) (in_key_order-without_row g.R.Row.key_cmp g.R.Row.key_of g.met.R.Row.key_order c.args.key.now rows c.args.self.now.in_order) }

pub returns-in-Err-clause-given : goal.returns-in-Err-clause-given
returns-in-Err-clause-given g c = sym (none_in_gap g.R.Row.key_cmp g.R.Row.key_of g.met.R.Row.key_order c.args.key.now c.args.self.now.list.items c.in-Err.field-0 c.in-Err.ensures.absent)

pub returns-in-Err-clause-rows : goal.returns-in-Err-clause-rows
returns-in-Err-clause-rows g c =
    sym (without_row-missing g.R.Row.key_cmp g.R.Row.key_of g.met.R.Row.key_order c.args.key.now c.args.self.now.list.items
    (none_in_gap g.R.Row.key_cmp g.R.Row.key_of g.met.R.Row.key_order c.args.key.now c.args.self.now.list.items c.in-Err.field-0 c.in-Err.ensures.absent))
