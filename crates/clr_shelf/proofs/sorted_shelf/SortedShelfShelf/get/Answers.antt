use Rattle.clr_shelf.specs.Items.{items_of}
use Rattle.clr_shelf.proofs.SortedPlaces.{read_at, none_read}
use Rattle.clr_shelf.proofs.sorted_shelf.SortedShelfShelf.get.Goals as goal

pub returns-in-Ok : goal.returns-in-Ok
returns-in-Ok g c = read_at g.R.Row.key_cmp g.R.Row.key_of g.R.Row.group_of g.R.Row.group_cmp
    g.met.R.Row.key_order g.met.R.Row.group_order g.met.R.Row.same_key
    c.args.key.now (items_of c.args.self.now.list) c.in-Ok.place c.at.result.now
    c.args.self.now.in_place c.in-Ok.ensures.found c.at.ensures

pub returns-in-Err : goal.returns-in-Err
returns-in-Err g c = none_read g.R.Row.key_cmp g.R.Row.key_of g.R.Row.group_of g.R.Row.group_cmp
    g.met.R.Row.key_order g.met.R.Row.group_order g.met.R.Row.same_key
    c.args.key.now (items_of c.args.self.now.list) c.in-Err.field-0 c.args.self.now.in_place
    c.in-Err.ensures.absent
