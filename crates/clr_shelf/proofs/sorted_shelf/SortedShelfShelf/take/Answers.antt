use Rattle.clr_shelf.specs.Items.{items_of}
use Rattle.clr_shelf.proofs.SortedPlaces.{read_at, none_read, none_taken, sorted-remove}
use Rattle.clr_shelf.proofs.sorted_shelf.SortedShelfShelf.take.Goals as goal

pub invariant_of-self : goal.invariant_of-self
invariant_of-self g c =
    let left = sorted-remove g.R.Row.key_cmp g.R.Row.key_of g.R.Row.group_of g.R.Row.group_cmp
    g.met.R.Row.key_order g.met.R.Row.group_order g.met.R.Row.same_key
    c.args.key.now (items_of c.args.self.now.list) c.in-Ok.place c.args.self.now.in_place
    c.in-Ok.ensures.found in
    rw c.remove.ensures.items (record { in_place = left.in_place; in_order = left.in_order })

pub returns-in-Ok-clause-given : goal.returns-in-Ok-clause-given
returns-in-Ok-clause-given g c = read_at g.R.Row.key_cmp g.R.Row.key_of g.R.Row.group_of
    g.R.Row.group_cmp g.met.R.Row.key_order g.met.R.Row.group_order g.met.R.Row.same_key
    c.args.key.now (items_of c.args.self.now.list) c.in-Ok.place c.remove.result
    c.args.self.now.in_place c.in-Ok.ensures.found c.remove.ensures.item

pub returns-in-Ok-clause-rows : goal.returns-in-Ok-clause-rows
returns-in-Ok-clause-rows g c = rw c.remove.ensures.items
    (sorted-remove g.R.Row.key_cmp g.R.Row.key_of g.R.Row.group_of g.R.Row.group_cmp
    g.met.R.Row.key_order g.met.R.Row.group_order g.met.R.Row.same_key
    c.args.key.now (items_of c.args.self.now.list) c.in-Ok.place c.args.self.now.in_place
    c.in-Ok.ensures.found).is

pub returns-in-Err-clause-given : goal.returns-in-Err-clause-given
returns-in-Err-clause-given g c = none_read g.R.Row.key_cmp g.R.Row.key_of g.R.Row.group_of
    g.R.Row.group_cmp g.met.R.Row.key_order g.met.R.Row.group_order g.met.R.Row.same_key
    c.args.key.now (items_of c.args.self.now.list) c.in-Err.field-0 c.args.self.now.in_place
    c.in-Err.ensures.absent

pub returns-in-Err-clause-rows : goal.returns-in-Err-clause-rows
returns-in-Err-clause-rows g c = none_taken g.R.Row.key_cmp g.R.Row.key_of g.R.Row.group_of
    g.R.Row.group_cmp g.met.R.Row.key_order g.met.R.Row.group_order g.met.R.Row.same_key
    c.args.key.now (items_of c.args.self.now.list) c.in-Err.field-0 c.args.self.now.in_place
    c.in-Err.ensures.absent
