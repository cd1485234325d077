use Rattle.std.proofs.Common.{◌≡◌, true, false, sym, ◌∙◌, ap, rules, arith, is_lt, is_eq}
use Rattle.std.proofs.lemmas.List.{get_or_read}
use Rattle.std.proofs.lemmas.List.Sorted.{searchable_from_sorted}
use Rattle.clr_shelf.specs.Items.{items_of}
use Rattle.clr_shelf.specs.Places.{place_cmp}
use Rattle.clr_shelf.proofs.ByGroup.{place_total}
use Rattle.clr_shelf.proofs.GroupRuns.{partitioned_lower}
use Rattle.clr_shelf.proofs.Halves.{partition_from_point, gap_from_point}
use Rattle.clr_shelf.proofs.Places.{sorted}
use Rattle.clr_shelf.proofs.sorted_shelf.SortedShelf.place_of.Goals as goal

-- no row is at the place
pub returns-then-place-len-clause-absent : goal.returns-then-place-len-clause-absent
returns-then-place-len-clause-absent g c =
    let rows = items_of c.args.self.now.list in
    let place = c.partition_point-place.result in
    let side = λ (row : g.row.R.Denot). place_cmp g.R.Row.key_cmp g.R.Row.group_of
    g.R.Row.group_cmp (g.R.Row.key_of row) c.args.key.now in
    let total = place_total g.R.Row.key_cmp g.R.Row.key_of g.R.Row.group_of g.R.Row.group_cmp
    g.met.R.Row.key_order g.met.R.Row.group_order g.met.R.Row.same_key in
    let rise = searchable_from_sorted total g.R.Row.key_of rows c.args.key.now
    (sorted (place_cmp g.R.Row.key_cmp g.R.Row.group_of g.R.Row.group_cmp) g.R.Row.key_of total
    rows c.args.self.now.in_place) in
    let parts = partition_from_point (λ row. is_lt (side row)) rows place
    (partitioned_lower side rows rise) c.partition_point-place.ensures.in_range
    (λ k d is. let said = c.partition_point-place.ensures.before k d is in
    let met : is_lt (side said.shown.now) ≡ true = search rules in
    ap (λ row. is_lt (side row)) (sym said.shows) ∙ met)
    (λ d some. let said = c.partition_point-place.ensures.after d some in
    let met : is_lt (side said.shown.now) ≡ false = search rules in
    ap (λ row. is_lt (side row)) (sym said.shows) ∙ met) in
    let sides = gap_from_point side rows place rise parts (λ d some. absurd (omega (arith, some)))
    in
    record {
      in_range = c.partition_point-place.ensures.in_range;
      lower_before = sides.0;
      higher_after = sides.1;
    }

-- the row there has another key
pub returns-clause-absent : goal.returns-clause-absent
returns-clause-absent g c =
    let rows = items_of c.args.self.now.list in
    let place = c.partition_point-place.result in
    let side = λ (row : g.row.R.Denot). place_cmp g.R.Row.key_cmp g.R.Row.group_of
    g.R.Row.group_cmp (g.R.Row.key_of row) c.args.key.now in
    let total = place_total g.R.Row.key_cmp g.R.Row.key_of g.R.Row.group_of g.R.Row.group_cmp
    g.met.R.Row.key_order g.met.R.Row.group_order g.met.R.Row.same_key in
    let rise = searchable_from_sorted total g.R.Row.key_of rows c.args.key.now
    (sorted (place_cmp g.R.Row.key_cmp g.R.Row.group_of g.R.Row.group_cmp) g.R.Row.key_of total
    rows c.args.self.now.in_place) in
    let parts = partition_from_point (λ row. is_lt (side row)) rows place
    (partitioned_lower side rows rise) c.partition_point-place.ensures.in_range
    (λ k d is. let said = c.partition_point-place.ensures.before k d is in
    let met : is_lt (side said.shown.now) ≡ true = search rules in
    ap (λ row. is_lt (side row)) (sym said.shows) ∙ met)
    (λ d some. let said = c.partition_point-place.ensures.after d some in
    let met : is_lt (side said.shown.now) ≡ false = search rules in
    ap (λ row. is_lt (side row)) (sym said.shows) ∙ met) in
    let apart : is_eq (side c.at-row.result.now) ≡ false = search rules in
    let sides = gap_from_point side rows place rise parts (λ d some.
    ap (λ row. is_eq (side row)) (sym
    (get_or_read rows place c.at-row.result.now some c.at-row.ensures d)) ∙ apart) in
    record {
      in_range = c.partition_point-place.ensures.in_range;
      lower_before = sides.0;
      higher_after = sides.1;
    }
