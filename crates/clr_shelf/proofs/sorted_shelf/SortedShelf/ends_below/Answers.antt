use Rattle.std.proofs.Common.{◌≡◌, ◌∙◌, ◌-◌, true, sym, ap, rules, arith, is_lt, length, subst, ℕ, get_or}
use Rattle.std.proofs.lemmas.List.{get_or_read}
use Rattle.std.proofs.lemmas.List.Sorted.{searchable_from_sorted}
use Rattle.clr_shelf.specs.Items.{items_of}
use Rattle.clr_shelf.specs.Places.{place_cmp}
use Rattle.clr_shelf.proofs.ByGroup.{place_total}
use Rattle.clr_shelf.proofs.GroupRuns.{partitioned_lower}
use Rattle.clr_shelf.proofs.Halves.{partition_from_point, gap_from_point}
use Rattle.clr_shelf.proofs.Places.{sorted}
use Rattle.clr_shelf.proofs.sorted_shelf.SortedShelf.ends_below.Goals as goal

-- the last row is below the key, and so are the others
pub returns : goal.returns
returns g c below =
    let rows = items_of c.args.self.now.list in
    let side = λ (row : g.row.R.Denot). place_cmp g.R.Row.key_cmp g.R.Row.group_of
    g.R.Row.group_cmp (g.R.Row.key_of row) c.args.key.now in
    let total = place_total g.R.Row.key_cmp g.R.Row.key_of g.R.Row.group_of g.R.Row.group_cmp
    g.met.R.Row.key_order g.met.R.Row.group_order g.met.R.Row.same_key in
    let rise = searchable_from_sorted total g.R.Row.key_of rows c.args.key.now
    (sorted (place_cmp g.R.Row.key_cmp g.R.Row.group_of g.R.Row.group_cmp) g.R.Row.key_of total
    rows c.args.self.now.in_place) in
    let met : is_lt (side c.at-row.result.now) ≡ true = search rules in
    let parts = partition_from_point (λ row. is_lt (side row)) rows (length rows)
    (partitioned_lower side rows rise) (omega arith)
    (λ k d is. let last : k ≡ c.len-len.result - 1 = omega (arith, is, c.len-len.ensures) in
    let same = get_or_read rows (c.len-len.result - 1) c.at-row.result.now (omega (arith, is, c.len-len.ensures)) c.at-row.ensures d in
    subst (λ (n : ℕ). is_lt (side (get_or rows n d)) ≡ true) (sym last) (ap (λ row. is_lt (side row)) (sym same) ∙ met))
    (λ d some. absurd (omega (arith, some))) in
    let sides = gap_from_point side rows (length rows) rise parts (λ d some. absurd (omega (arith, some))) in
    record { in_range = omega arith; lower_before = sides.0; higher_after = sides.1 }
