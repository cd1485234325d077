use Rattle.std.proofs.Common.{◌≡◌, ◌∙◌, false, sym, ap, rules, arith, get_or, length, is_le, is_lt}
use Rattle.std.proofs.lemmas.List.{get_or_read}
use Rattle.clr_shelf.specs.Items.{items_of}
use Rattle.clr_shelf.proofs.ByGroup.{groups_rise}
use Rattle.clr_shelf.proofs.GroupRuns.{partitioned_no_higher}
use Rattle.clr_shelf.proofs.Halves.{partition_from_point}
use Rattle.clr_shelf.proofs.RunOfGroup.{lower_no_higher, run_from_start}
use Rattle.clr_shelf.proofs.sorted_shelf.SortedShelf.places_from.Goals as goal

-- no row is there, so none of the group is
pub returns-then-place-len-clause-run : goal.returns-then-place-len-clause-run
returns-then-place-len-clause-run g c =
    let rows = items_of c.args.self.now.list in
    let place = c.args.place in
    let side = λ (row : g.row.R.Denot). g.R.Row.group_cmp (g.R.Row.group_of (g.R.Row.key_of row)) c.args.group.now in
    let rise = groups_rise g.R.Row.key_cmp g.R.Row.key_of g.R.Row.group_of g.R.Row.group_cmp
    g.met.R.Row.key_order g.met.R.Row.group_order g.met.R.Row.same_key c.args.group.now rows
    c.args.self.now.in_place in
    let last : place ≡ length rows = omega (arith, c.if-place-len.true, c.len.ensures) in
    (run_from_start g.R.Row.key_cmp g.R.Row.key_of g.R.Row.group_of g.R.Row.group_cmp
    g.met.R.Row.key_order g.met.R.Row.group_order g.met.R.Row.same_key
    c.args.group.now (g.R.Row.is_in c.args.group.now) (g.met.R.Row.in_one_group c.args.group.now)
    rows c.args.self.now.in_place place place
    c.requires.in_range c.requires.before (λ d some. absurd (omega (arith, some, last))) c.requires.in_range
    (partition_from_point (λ row. is_le (side row)) rows place (partitioned_no_higher side rows rise) c.requires.in_range
    (λ k d is. lower_no_higher (side (get_or rows k d)) (c.requires.before k d is))
    (λ d some. absurd (omega (arith, some, last))))).1

-- the row there is of the group
pub returns-in-Equal-clause-run : goal.returns-in-Equal-clause-run
returns-in-Equal-clause-run g c =
    let rows = items_of c.args.self.now.list in
    let place = c.args.place in
    let side = λ (row : g.row.R.Denot). g.R.Row.group_cmp (g.R.Row.group_of (g.R.Row.key_of row)) c.args.group.now in
    let here : is_lt (side c.at.result.now) ≡ false = search rules in
    (run_from_start g.R.Row.key_cmp g.R.Row.key_of g.R.Row.group_of g.R.Row.group_cmp
    g.met.R.Row.key_order g.met.R.Row.group_order g.met.R.Row.same_key
    c.args.group.now (g.R.Row.is_in c.args.group.now) (g.met.R.Row.in_one_group c.args.group.now)
    rows c.args.self.now.in_place place c.end_after.result
    c.requires.in_range c.requires.before
    (λ d some. ap (λ row. is_lt (side row)) (sym (get_or_read rows place c.at.result.now some c.at.ensures d)) ∙ here)
    c.end_after.ensures.in_range c.end_after.ensures.parts).1

-- the row there is above the group
pub returns-in-Greater-clause-run : goal.returns-in-Greater-clause-run
returns-in-Greater-clause-run g c =
    let rows = items_of c.args.self.now.list in
    let place = c.args.place in
    let side = λ (row : g.row.R.Denot). g.R.Row.group_cmp (g.R.Row.group_of (g.R.Row.key_of row)) c.args.group.now in
    let rise = groups_rise g.R.Row.key_cmp g.R.Row.key_of g.R.Row.group_of g.R.Row.group_cmp
    g.met.R.Row.key_order g.met.R.Row.group_order g.met.R.Row.same_key c.args.group.now rows
    c.args.self.now.in_place in
    let not_below : is_lt (side c.at.result.now) ≡ false = search rules in
    let above : is_le (side c.at.result.now) ≡ false = search rules in
    (run_from_start g.R.Row.key_cmp g.R.Row.key_of g.R.Row.group_of g.R.Row.group_cmp
    g.met.R.Row.key_order g.met.R.Row.group_order g.met.R.Row.same_key
    c.args.group.now (g.R.Row.is_in c.args.group.now) (g.met.R.Row.in_one_group c.args.group.now)
    rows c.args.self.now.in_place place place
    c.requires.in_range c.requires.before
    (λ d some. ap (λ row. is_lt (side row)) (sym (get_or_read rows place c.at.result.now some c.at.ensures d)) ∙ not_below)
    c.requires.in_range
    (partition_from_point (λ row. is_le (side row)) rows place (partitioned_no_higher side rows rise) c.requires.in_range
    (λ k d is. lower_no_higher (side (get_or rows k d)) (c.requires.before k d is))
    (λ d some. ap (λ row. is_le (side row)) (sym (get_or_read rows place c.at.result.now some c.at.ensures d)) ∙ above))).1
