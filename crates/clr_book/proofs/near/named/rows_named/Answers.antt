use Rattle.std.proofs.Common.{◌≡◌, ◌∙◌, ◌+◌, ◌++◌, ◌∷◌, [], ℕ, List, map, filter, sym, ap, subst, drop, Bor}
use Rattle.std.specs.List.Sorted.{IsPermutation, IsSortedByKey, IsStrictlySortedBy}
use Rattle.std.specs.Option.{option_copied}
use Rattle.std.proofs.lemmas.List.{append-nil, drop_all, drop_more, map-append}
use Rattle.std.proofs.lemmas.List.Sorted.{IsPermutation-map, IsPermutation-refl, IsPermutation-trans}
use Rattle.std.proofs.lemmas.Cmp.{nat_list_cmp_total}
use Rattle.clr_net.specs.Name.{name_cmp}
use Rattle.clr_net.specs.Names.{has_name}
use Rattle.clr_shelf.proofs.KeyOrder.{in_key_order-filter}
use Rattle.clr_rules.proofs.good.Opening.{in_key_order-from_sorted}
use Rattle.clr_book.proofs.LookedUp.{listed, name_more, names_done, names_rest}
use Rattle.clr_answer.proofs.SortedRows.{same_from_sorted, sorted-map}
use Rattle.clr_book.proofs.near.named.rows_named.Goals as goal
use Rattle.clr_book.proofs.near.named.rows_named.Goals.{in-Some+in_ok-push, in_default}

pub loop-name-init : goal.loop-name-init
loop-name-init g c = rw c.new-found.ensures.items (c.requires.names, IsPermutation-refl _)

pub loop-name-preserved : goal.loop-name-preserved
loop-name-preserved g c =
    let names = c.args.names.now in
    let rows = c.args.rows.now in
    let name_of = g.R.Named.name_of in
    let i = c.loop-name.name-index in
    let name = c.name-item.result in
    let shows = λ (row : Bor g.row.R.Denot). row.now in
    let found = map shows c.loop-name.found.items in
    let all = filter (λ row. has_name names (name_of row)) rows in
    let step : drop i names ≡ name ∷ drop (i + 1) names = drop_more names i name c.loop-name-test.true ∙ ap (λ y. y ∷ drop (i + 1) names) (sym c.name-item.is) in
    let rise : IsStrictlySortedBy name_cmp (name ∷ drop (i + 1) names) =
    subst (λ (left : List (List ℕ)). IsStrictlySortedBy name_cmp left) step c.loop-name.invariant.0 in
    let so_far : IsPermutation all (found ++ filter (λ row. has_name (name ∷ drop (i + 1) names) (name_of row)) rows) =
    subst (λ (left : List (List ℕ)). IsPermutation all (found ++ filter (λ row. has_name left (name_of row)) rows)) step c.loop-name.invariant.1 in
    let more = name_more name_of name (drop (i + 1) names) rows all found (option_copied c.row_of.result) c.requires.rows rise c.row_of.ensures so_far in
    let now_found : map shows c.match-row_of.found.items ≡ found ++ listed (option_copied c.row_of.result) = elim c.match-row_of.branch [
      | in-Some+in_ok-push w ↦
          rw (w.found-is, w.in_ok-push.ensures.items, w.in-Some.is) (map-append shows c.loop-name.found.items (w.in-Some.row ∷ []))
      | in_default w ↦ rw (w.found-is, w.in_default.is) (sym (append-nil found))
    ] in (
      names_rest name_of name (drop (i + 1) names) rise,
      subst (λ (found : List g.row.R.Denot). IsPermutation all (found ++ filter (λ row. has_name (drop (i + 1) names) (name_of row)) rows)) (sym now_found) more,
    )

pub returns : goal.returns
returns g c =
    let names = c.args.names.now in
    let rows = c.args.rows.now in
    let name_of = g.R.Named.name_of in
    let shows = λ (row : Bor g.row.R.Denot). row.now in
    let found = c.loop-name.found.items in
    let sorted = c.sort_by_name.new.rows.items in
    let all = filter (λ row. has_name names (name_of row)) rows in
    let there : IsPermutation all (map shows found) =
    names_done name_of rows all (map shows found)
    (subst (λ (left : List (List ℕ)). IsPermutation all (map shows found ++ filter (λ row. has_name left (name_of row)) rows))
    (drop_all c.loop-name.name-index names c.loop-name-test.false) c.loop-name.invariant.1) in
    let moved : IsPermutation all (map shows sorted) =
    IsPermutation-trans all (map shows found) (map shows sorted) there (IsPermutation-map shows found sorted c.sort_by_name.ensures.permutation) in
    let up : IsSortedByKey (λ (row : Bor g.row.R.Denot). name_of row.now) name_cmp sorted = c.sort_by_name.ensures.sorted in
    same_from_sorted name_cmp name_of nat_list_cmp_total all (map shows sorted)
    (in_key_order-filter name_cmp name_of nat_list_cmp_total (λ row. has_name names (name_of row)) rows (in_key_order-from_sorted name_cmp name_of rows c.requires.rows)) moved
    (sorted-map name_cmp name_of shows sorted up)
