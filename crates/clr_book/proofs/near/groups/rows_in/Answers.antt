use Rattle.std.proofs.Common.{◌≡◌, ◌∙◌, ◌++◌, List, map, filter, sym, ap, rules, subst, Bor}
use Rattle.std.specs.List.{flat_map, list_any}
use Rattle.std.specs.List.Sorted.{IsPermutation, IsSortedByKey}
use Rattle.std.specs.Ordering.{is_lt}
use Rattle.std.proofs.lemmas.Fn.{always_returns_same}
use Rattle.std.proofs.lemmas.List.Sorted.{IsPermutation-map, IsPermutation-trans, ranks_by}
use Rattle.clr_shelf.proofs.KeyOrder.{in_key_order-filter}
use Rattle.clr_book.proofs.Grouped.{rows_of_groups}
use Rattle.clr_answer.proofs.SortedRows.{same_from_sorted, sorted-map}
use Rattle.clr_book.proofs.near.groups.rows_in.Goals as goal

pub returns : goal.returns
returns g c =
    let groups = c.args.groups.now in
    let rows = g.S.Shelf.rows c.args.shelf.now in
    let shows = λ (row : Bor g.row.R.Denot). row.now in
    let found = c.push_groups.new.found.items in
    let sorted = c.sort_unstable_by.new.self.items in
    let all = filter (λ row. list_any (λ group. g.R.Row.is_in group row) groups) rows in
    let by_group = flat_map (λ group. filter (g.R.Row.is_in group) rows) groups in
    let found_is : map shows found ≡ by_group = c.in_ok-push_groups.ensures ∙ ap (λ (had : List (Bor g.row.R.Denot)). map shows had ++ by_group) c.in_ok-found.ensures.items in
    let there : IsPermutation all (map shows found) =
    subst (λ (found : List g.row.R.Denot). IsPermutation all found) (sym found_is)
    (rows_of_groups g.R.Row.group_cmp g.met.R.Row.group_order g.R.Row.is_in (λ row. g.R.Row.group_of (g.R.Row.key_of row)) g.met.R.Row.in_one_group groups rows c.requires) in
    let moved : IsPermutation all (map shows sorted) =
    IsPermutation-trans all (map shows found) (map shows sorted) there (IsPermutation-map shows found sorted c.sort_unstable_by.ensures.permutation) in
    let up : IsSortedByKey (λ (row : Bor g.row.R.Denot). g.R.Row.key_of row.now) g.R.Row.key_cmp sorted =
    c.sort_unstable_by.ensures.sorted (λ a b. is_lt (g.R.Row.key_cmp (g.R.Row.key_of a.now) (g.R.Row.key_of b.now))) (ranks_by g.met.R.Row.key_order (λ (row : Bor g.row.R.Denot). g.R.Row.key_of row.now))
    (always_returns_same _ _ _ (λ a r f' h. search rules)) in
    same_from_sorted g.R.Row.key_cmp g.R.Row.key_of g.met.R.Row.key_order all (map shows sorted)
    (in_key_order-filter g.R.Row.key_cmp g.R.Row.key_of g.met.R.Row.key_order (λ row. list_any (λ group. g.R.Row.is_in group row) groups) rows (g.met.S.Shelf.in_order c.args.shelf.now)) moved
    (sorted-map g.R.Row.key_cmp g.R.Row.key_of shows sorted up)
