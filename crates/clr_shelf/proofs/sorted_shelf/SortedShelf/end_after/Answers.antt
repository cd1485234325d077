use Rattle.std.proofs.Common.{◌≡◌, ◌∙◌, false, sym, ap, rules, arith, length, is_le}
use Rattle.std.proofs.lemmas.List.{get_or_read}
use Rattle.clr_shelf.specs.Items.{items_of}
use Rattle.clr_shelf.proofs.ByGroup.{groups_rise}
use Rattle.clr_shelf.proofs.GroupRuns.{partitioned_no_higher}
use Rattle.clr_shelf.proofs.Halves.{partition_from_point}
use Rattle.clr_shelf.proofs.sorted_shelf.SortedShelf.end_after.Goals as goal

-- no row is there, so none of the group is
pub returns-then-place-len-clause-parts : goal.returns-then-place-len-clause-parts
returns-then-place-len-clause-parts g c =
    let rows = items_of c.args.self.now.list in
    let place = c.args.place in
    let side = λ (row : g.row.R.Denot). g.R.Row.group_cmp (g.R.Row.group_of (g.R.Row.key_of row)) c.args.group.now in
    let rise = groups_rise g.R.Row.key_cmp g.R.Row.key_of g.R.Row.group_of g.R.Row.group_cmp
    g.met.R.Row.key_order g.met.R.Row.group_order g.met.R.Row.same_key c.args.group.now rows
    c.args.self.now.in_place in
    let last : place ≡ length rows = omega (arith, c.if-place-len.true, c.len.ensures) in
    partition_from_point (λ row. is_le (side row)) rows place (partitioned_no_higher side rows rise) c.requires.in_range
    c.requires.before
    (λ d some. absurd (omega (arith, some, last)))

-- the row there is above the group
pub returns-else-is_le-clause-parts : goal.returns-else-is_le-clause-parts
returns-else-is_le-clause-parts g c =
    let rows = items_of c.args.self.now.list in
    let place = c.args.place in
    let side = λ (row : g.row.R.Denot). g.R.Row.group_cmp (g.R.Row.group_of (g.R.Row.key_of row)) c.args.group.now in
    let rise = groups_rise g.R.Row.key_cmp g.R.Row.key_of g.R.Row.group_of g.R.Row.group_cmp
    g.met.R.Row.key_order g.met.R.Row.group_order g.met.R.Row.same_key c.args.group.now rows
    c.args.self.now.in_place in
    let above : is_le (side c.at-row.result.now) ≡ false = search rules in
    partition_from_point (λ row. is_le (side row)) rows place (partitioned_no_higher side rows rise) c.requires.in_range
    c.requires.before
    (λ d some. ap (λ row. is_le (side row)) (sym (get_or_read rows place c.at-row.result.now some c.at-row.ensures d)) ∙ above)
