use Rattle.std.proofs.Common.{◌≡◌, ◌∙◌, ◌++◌, ◌∷◌, [], List, map, sym, ap, rules, subst, take, Bor, slice_get, Some, option_copied}
use Rattle.std.specs.List.Sorted.{IsPermutation, IsSortedByKey}
use Rattle.std.specs.Ordering.{is_lt}
use Rattle.std.proofs.lemmas.Fn.{always_returns_same}
use Rattle.std.proofs.lemmas.List.{map-append, take_all, take_more}
use Rattle.std.proofs.lemmas.List.Sorted.{IsPermutation-map, IsPermutation-trans, ranks_by}
use Rattle.std.proofs.lemmas.Option.{get_or_from_slice_get, slice_get_within}
use Rattle.clr_answer.proofs.SortedRows.{same_from_sorted, sorted-map}
use Rattle.clr_book.proofs.book.rows.all_rows.Goals as goal

pub loop-place-preserved : goal.loop-place-preserved
loop-place-preserved g c =
    let places = g.S.Shelf.places c.args.shelf.now in
    let i = c.loop-place.place in
    let row = c.in-Some.row.now in
    let found : slice_get places i ≡ Some row = sym (sym (ap option_copied c.in-Some.is) ∙ c.at.ensures) in
    ap (map (λ found. found.now)) c.in_ok-push.ensures.items
    ∙ map-append (λ found. found.now) c.loop-place.found.items (c.in-Some.row ∷ [])
    ∙ ap (λ (rows : List g.row.R.Denot). rows ++ row ∷ []) c.loop-place.invariant
    ∙ ap (λ (next : g.row.R.Denot). take i places ++ next ∷ []) (sym (get_or_from_slice_get places i row row found))
    ∙ sym (take_more places i row (slice_get_within places i row found))

pub returns : goal.returns
returns g c =
    let places = g.S.Shelf.places c.args.shelf.now in
    let rows = g.S.Shelf.rows c.args.shelf.now in
    let found = c.loop-place.found.items in
    let sorted = c.sort_unstable_by.new.self.items in
    let shows = λ (row : Bor g.row.R.Denot). row.now in
    let all : map shows found ≡ places = c.loop-place.invariant ∙ take_all c.loop-place.place places (rw (sym c.len-place-end.ensures.places) c.loop-place-test.false) in
    let moved : IsPermutation rows (map shows sorted) =
    IsPermutation-trans rows places (map shows sorted) (g.met.S.Shelf.each_once c.args.shelf.now)
    (subst (λ (here : List g.row.R.Denot). IsPermutation here (map shows sorted)) all (IsPermutation-map shows found sorted c.sort_unstable_by.ensures.permutation)) in
    let up : IsSortedByKey (λ (row : Bor g.row.R.Denot). g.R.Row.key_of row.now) g.R.Row.key_cmp sorted =
    c.sort_unstable_by.ensures.sorted (λ a b. is_lt (g.R.Row.key_cmp (g.R.Row.key_of a.now) (g.R.Row.key_of b.now))) (ranks_by g.met.R.Row.key_order (λ (row : Bor g.row.R.Denot). g.R.Row.key_of row.now))
    (always_returns_same _ _ _ (λ a r f' h. search rules)) in
    same_from_sorted g.R.Row.key_cmp g.R.Row.key_of g.met.R.Row.key_order rows (map shows sorted) (g.met.S.Shelf.in_order c.args.shelf.now) moved
    (sorted-map g.R.Row.key_cmp g.R.Row.key_of shows sorted up)
