use Rattle.std.proofs.Common.{◌<◌, arith, vec_len, vec_capacity}
use Rattle.clr_shelf.proofs.KeyOrder.{in_key_order-with_row}
use Rattle.clr_shelf.proofs.Places.{set_at, insert_in_gap}
use Rattle.clr_shelf.proofs.list_shelf.ListShelfShelf.put.Goals as goal

-- over the row of its key the row is put
pub returns-in-Ok-clause-rows : goal.returns-in-Ok-clause-rows
returns-in-Ok-clause-rows g c =
    let found = rw c.key.ensures at c.in-Ok.ensures.found in
    set_at g.R.Row.key_cmp g.R.Row.key_of g.met.R.Row.key_order c.args.row c.args.self.now.list.items c.in-Ok.place c.args.self.now.in_order found.in_range found.has_key

pub invariant_of-self : goal.invariant_of-self
invariant_of-self g c =
    let rows = c.args.self.now.list.items in
    let found = rw c.key.ensures at c.in-Ok.ensures.found in
    let put = set_at g.R.Row.key_cmp g.R.Row.key_of g.met.R.Row.key_order c.args.row rows c.in-Ok.place c.args.self.now.in_order found.in_range found.has_key in
    record { in_order = rw put (in_key_order-with_row g.R.Row.key_cmp g.R.Row.key_of g.met.R.Row.key_order c.args.row rows c.args.self.now.in_order) }

-- there is room, so the row goes into the gap for its key
pub returns-clause-rows : goal.returns-clause-rows
returns-clause-rows g c =
    let rows = c.args.self.now.list.items in
    let room : vec_len c.args.self.now.list < vec_capacity c.args.self.now.list = omega (arith, c.requires) in
    let gap = rw c.key.ensures at c.in-Err.ensures.absent in
    let fits = c.insert.ensures.succeeds room in
    rw (c.insert.ensures.items, fits) (insert_in_gap g.R.Row.key_cmp g.R.Row.key_of g.met.R.Row.key_order c.args.row rows c.in-Err.place gap)

pub invariant_of-self-in-Err : goal.invariant_of-self-in-Err
invariant_of-self-in-Err g c =
    let rows = c.args.self.now.list.items in
    let room : vec_len c.args.self.now.list < vec_capacity c.args.self.now.list = omega (arith, c.requires) in
    let gap = rw c.key.ensures at c.in-Err.ensures.absent in
    let fits = c.insert.ensures.succeeds room in
    let put = insert_in_gap g.R.Row.key_cmp g.R.Row.key_of g.met.R.Row.key_order c.args.row rows c.in-Err.place gap in
    record { in_order = rw (c.insert.ensures.items, fits, put) (in_key_order-with_row g.R.Row.key_cmp g.R.Row.key_of g.met.R.Row.key_order c.args.row rows c.args.self.now.in_order) }
