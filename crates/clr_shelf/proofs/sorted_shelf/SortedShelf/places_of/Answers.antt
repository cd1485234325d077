use Rattle.std.proofs.Common.{rules}
use Rattle.clr_shelf.specs.Items.{items_of}
use Rattle.clr_shelf.proofs.GroupRuns.{start_le_end}
use Rattle.clr_shelf.proofs.RunOfGroup.{run_of_group}
use Rattle.clr_shelf.proofs.sorted_shelf.SortedShelf.places_of.Goals as goal

pub returns-clause-rises : goal.returns-clause-rises
returns-clause-rises g c =
    start_le_end (λ row. g.R.Row.group_cmp (g.R.Row.group_of (g.R.Row.key_of row))
    c.args.group.now) c.start_of-start.result c.end_from-end.result
    (items_of c.args.self.now.list)
    (search rules) c.start_of-start.ensures.parts c.end_from-end.ensures.parts

-- the rows that are neither below the group nor above it, which are those of the group
pub returns-clause-run : goal.returns-clause-run
returns-clause-run g c =
    run_of_group g.R.Row.key_cmp g.R.Row.key_of g.R.Row.group_of g.R.Row.group_cmp
    g.met.R.Row.key_order g.met.R.Row.group_order g.met.R.Row.same_key
    c.args.group.now (g.R.Row.is_in c.args.group.now) (g.met.R.Row.in_one_group c.args.group.now)
    (items_of c.args.self.now.list) c.args.self.now.in_place c.start_of-start.result c.end_from-end.result
    (returns-clause-rises g c) (search rules) c.start_of-start.ensures.parts c.end_from-end.ensures.parts
