use Rattle.std.proofs.Common.{sym}
use Rattle.clr_shelf.proofs.Places.{row_at, none_in_gap}
use Rattle.clr_shelf.proofs.list_shelf.ListShelfShelf.get.Goals as goal

pub returns-in-Ok : goal.returns-in-Ok
returns-in-Ok g c = sym (row_at g.R.Row.key_cmp g.R.Row.key_of g.met.R.Row.key_order c.args.key.now c.args.self.now.list.items c.in-Ok.place c.index.result.now
    c.args.self.now.in_order c.in-Ok.ensures.found c.index.ensures)

pub returns-in-Err : goal.returns-in-Err
returns-in-Err g c = sym (none_in_gap g.R.Row.key_cmp g.R.Row.key_of g.met.R.Row.key_order c.args.key.now c.args.self.now.list.items c.in-Err.field-0 c.in-Err.ensures.absent)
