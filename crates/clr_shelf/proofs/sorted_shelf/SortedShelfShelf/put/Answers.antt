use Rattle.clr_shelf.specs.Items.{items_of}
use Rattle.clr_shelf.proofs.SortedPlaces.{sorted-set, sorted-insert}
use Rattle.clr_shelf.proofs.sorted_shelf.SortedShelfShelf.put.Goals as goal

-- over the row of its key the row is put
pub invariant_of-self : goal.invariant_of-self
invariant_of-self g c =
    let found = rw c.key.ensures at c.in-Ok.ensures.found in
    let put = sorted-set g.R.Row.key_cmp g.R.Row.key_of g.R.Row.group_of g.R.Row.group_cmp
    g.met.R.Row.key_order g.met.R.Row.group_order g.met.R.Row.same_key
    c.args.row (items_of c.args.self.now.list) c.in-Ok.place c.args.self.now.in_place found in
    rw c.replace-old.ensures.items (record { in_place = put.in_place; in_order = put.in_order })

pub returns-in-Ok-clause-rows : goal.returns-in-Ok-clause-rows
returns-in-Ok-clause-rows g c =
    let found = rw c.key.ensures at c.in-Ok.ensures.found in
    rw c.replace-old.ensures.items (sorted-set g.R.Row.key_cmp g.R.Row.key_of g.R.Row.group_of
    g.R.Row.group_cmp g.met.R.Row.key_order g.met.R.Row.group_order g.met.R.Row.same_key
    c.args.row (items_of c.args.self.now.list) c.in-Ok.place c.args.self.now.in_place found).is

-- there is room, so the row goes into the gap for its key
pub invariant_of-self-in-Err : goal.invariant_of-self-in-Err
invariant_of-self-in-Err g c =
    let gap = rw c.key.ensures at c.in-Err.ensures.absent in
    let put = sorted-insert g.R.Row.key_cmp g.R.Row.key_of g.R.Row.group_of g.R.Row.group_cmp
    g.met.R.Row.key_order g.met.R.Row.group_order g.met.R.Row.same_key
    c.args.row (items_of c.args.self.now.list) c.in-Err.place c.args.self.now.in_place gap in
    rw c.insert.ensures.items (record { in_place = put.in_place; in_order = put.in_order })

pub returns-clause-rows : goal.returns-clause-rows
returns-clause-rows g c =
    let gap = rw c.key.ensures at c.in-Err.ensures.absent in
    rw c.insert.ensures.items (sorted-insert g.R.Row.key_cmp g.R.Row.key_of g.R.Row.group_of
    g.R.Row.group_cmp g.met.R.Row.key_order g.met.R.Row.group_order g.met.R.Row.same_key
    c.args.row (items_of c.args.self.now.list) c.in-Err.place c.args.self.now.in_place gap).is
