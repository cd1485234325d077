use Rattle.std.proofs.Common.{◌≡◌, true, false, sym, ◌∙◌, ap, rules, is_le}
use Rattle.clr_shelf.specs.Items.{items_of}
use Rattle.clr_shelf.proofs.ByGroup.{groups_rise}
use Rattle.clr_shelf.proofs.GroupRuns.{partitioned_no_higher}
use Rattle.clr_shelf.proofs.Halves.{partition_from_point}
use Rattle.clr_shelf.proofs.sorted_shelf.SortedShelf.end_of.Goals as goal

-- the closure tests the group of the row that it is given
pub returns-clause-parts : goal.returns-clause-parts
returns-clause-parts g c =
    let rows = items_of c.args.self.now.list in
    let side = λ (row : g.row.R.Denot). g.R.Row.group_cmp (g.R.Row.group_of (g.R.Row.key_of row))
    c.args.group.now in
    let rise = groups_rise g.R.Row.key_cmp g.R.Row.key_of g.R.Row.group_of g.R.Row.group_cmp
    g.met.R.Row.key_order g.met.R.Row.group_order g.met.R.Row.same_key c.args.group.now rows
    c.args.self.now.in_place in
    partition_from_point (λ row. is_le (side row)) rows c.partition_point.result
    (partitioned_no_higher side rows rise) c.partition_point.ensures.in_range
    (λ k d is. let said = c.partition_point.ensures.before k d is in
    let met : is_le (side said.shown.now) ≡ true = search rules in
    ap (λ row. is_le (side row)) (sym said.shows) ∙ met)
    (λ d some. let said = c.partition_point.ensures.after d some in
    let met : is_le (side said.shown.now) ≡ false = search rules in
    ap (λ row. is_le (side row)) (sym said.shows) ∙ met)
