use Rattle.std.proofs.Common.{◌≡◌, ◌∙◌, true, false, sym, ap, rules, arith, get_or, length, is_eq, is_le, is_lt}
use Rattle.std.specs.declared.cmp.Ordering.{Ordering}
use Rattle.std.specs.declared.cmp.Ordering.TheVariants.{Less, Equal, Greater}
use Rattle.std.proofs.lemmas.List.{get_or_read}
use Rattle.clr_shelf.specs.Items.{items_of}
use Rattle.clr_shelf.proofs.ByGroup.{groups_rise}
use Rattle.clr_shelf.proofs.GroupRuns.{partitioned_no_higher}
use Rattle.clr_shelf.proofs.Halves.{partition_from_point}
use Rattle.clr_shelf.proofs.sorted_shelf.SortedShelf.end_from.Goals as goal

no_higher : (o : Ordering) → is_lt o ≡ true → is_le o ≡ true
no_higher Less h = cc
no_higher Equal h = cc
no_higher Greater h = cc

higher : (o : Ordering) → is_lt o ≡ false → is_eq o ≡ false → is_le o ≡ false
higher Less lt eq = cc
higher Equal lt eq = cc
higher Greater lt eq = cc

-- no row is there, so none of the group is
pub returns-then-start-len-clause-parts : goal.returns-then-start-len-clause-parts
returns-then-start-len-clause-parts g c =
    let rows = items_of c.args.self.now.list in
    let start = c.args.start in
    let side = λ (row : g.row.R.Denot). g.R.Row.group_cmp (g.R.Row.group_of (g.R.Row.key_of row)) c.args.group.now in
    let rise = groups_rise g.R.Row.key_cmp g.R.Row.key_of g.R.Row.group_of g.R.Row.group_cmp
    g.met.R.Row.key_order g.met.R.Row.group_order g.met.R.Row.same_key c.args.group.now rows
    c.args.self.now.in_place in
    let last : start ≡ length rows = omega (arith, c.if-start-len.true, c.len.ensures) in
    partition_from_point (λ row. is_le (side row)) rows start (partitioned_no_higher side rows rise) c.requires.in_range
    (λ k d is. no_higher (side (get_or rows k d)) (c.requires.parts.0 k d (omega arith) (omega arith)))
    (λ d some. absurd (omega (arith, some, last)))

-- the row there is above the group, since it is neither below nor in it
pub returns-else-is_eq-clause-parts : goal.returns-else-is_eq-clause-parts
returns-else-is_eq-clause-parts g c =
    let rows = items_of c.args.self.now.list in
    let start = c.args.start in
    let side = λ (row : g.row.R.Denot). g.R.Row.group_cmp (g.R.Row.group_of (g.R.Row.key_of row)) c.args.group.now in
    let rise = groups_rise g.R.Row.key_cmp g.R.Row.key_of g.R.Row.group_of g.R.Row.group_cmp
    g.met.R.Row.key_order g.met.R.Row.group_order g.met.R.Row.same_key c.args.group.now rows
    c.args.self.now.in_place in
    let apart : is_eq (side c.at-row.result.now) ≡ false = search rules in
    partition_from_point (λ row. is_le (side row)) rows start (partitioned_no_higher side rows rise) c.requires.in_range
    (λ k d is. no_higher (side (get_or rows k d)) (c.requires.parts.0 k d (omega arith) (omega arith)))
    (λ d some. higher (side (get_or rows start d)) (c.requires.parts.1 start d (omega arith) some)
    (ap (λ row. is_eq (side row)) (sym (get_or_read rows start c.at-row.result.now some c.at-row.ensures d)) ∙ apart))
