use Rattle.clr_shelf.specs.Items.{items_of}
use Rattle.clr_shelf.proofs.SortedPlaces.{read_at, none_read, sorted-set}
use Rattle.clr_shelf.proofs.sorted_shelf.SortedShelfShelf.replace.Goals as goal

-- over the row of its key the row is put
pub invariant_of-self : goal.invariant_of-self
invariant_of-self g c =
    let found = rw c.key.ensures at c.in-Ok.ensures.found in
    let put = sorted-set g.R.Row.key_cmp g.R.Row.key_of g.R.Row.group_of g.R.Row.group_cmp
    g.met.R.Row.key_order g.met.R.Row.group_order g.met.R.Row.same_key
    c.args.row (items_of c.args.self.now.list) c.in-Ok.place c.args.self.now.in_place found in
    rw c.replace.ensures.items (record { in_place = put.in_place; in_order = put.in_order })

pub returns-in-Ok-clause-rows : goal.returns-in-Ok-clause-rows
returns-in-Ok-clause-rows g c =
    let found = rw c.key.ensures at c.in-Ok.ensures.found in
    rw c.replace.ensures.items (sorted-set g.R.Row.key_cmp g.R.Row.key_of g.R.Row.group_of
    g.R.Row.group_cmp g.met.R.Row.key_order g.met.R.Row.group_order g.met.R.Row.same_key
    c.args.row (items_of c.args.self.now.list) c.in-Ok.place c.args.self.now.in_place found).is

-- which was at the place that was found
pub returns-in-Ok-clause-given : goal.returns-in-Ok-clause-given
returns-in-Ok-clause-given g c =
    let found = rw c.key.ensures at c.in-Ok.ensures.found in
    read_at g.R.Row.key_cmp g.R.Row.key_of g.R.Row.group_of g.R.Row.group_cmp
    g.met.R.Row.key_order g.met.R.Row.group_order g.met.R.Row.same_key
    (g.R.Row.key_of c.args.row) (items_of c.args.self.now.list) c.in-Ok.place c.replace.result
    c.args.self.now.in_place found c.replace.ensures.old

pub returns-in-Err-clause-given : goal.returns-in-Err-clause-given
returns-in-Err-clause-given g c =
    let gap = rw c.key.ensures at c.in-Err.ensures.absent in
    none_read g.R.Row.key_cmp g.R.Row.key_of g.R.Row.group_of g.R.Row.group_cmp
    g.met.R.Row.key_order g.met.R.Row.group_order g.met.R.Row.same_key
    (g.R.Row.key_of c.args.row) (items_of c.args.self.now.list) c.in-Err.field-0
    c.args.self.now.in_place gap
