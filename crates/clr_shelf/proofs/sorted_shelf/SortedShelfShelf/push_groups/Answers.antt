use Rattle.std.proofs.Common.{◌≡◌, ◌∙◌, ◌+◌, ◌++◌, ◌∷◌, List, map, filter, sym, ap, subst, drop, Bor}
use Rattle.std.specs.List.{flat_map}
use Rattle.std.specs.List.Sorted.{IsStrictlySortedBy}
use Rattle.std.proofs.lemmas.List.{append_assoc, drop_more}
use Rattle.std.proofs.lemmas.Map.Keys.{sorted_tail}
use Rattle.clr_shelf.specs.ByKey.{rows_by_key}
use Rattle.clr_shelf.specs.Items.{items_of}
use Rattle.clr_shelf.proofs.NextGroups.{before_next, rising-first}
use Rattle.clr_shelf.proofs.sorted_shelf.SortedShelfShelf.push_groups.Goals as goal

pub loop-group-preserved : goal.loop-group-preserved
loop-group-preserved g c =
    let items = items_of c.args.self.now.list in
    let groups = c.args.groups.now in
    let i = c.loop-group.group-index in
    let group = c.group-item.result in
    let above = drop (i + 1) groups in
    let rows = rows_by_key g.R.Row.key_cmp g.R.Row.key_of items in
    let shows = λ (row : Bor g.row.R.Denot). row.now in
    let of = λ (group : g.row.R-Group.Denot). filter (g.R.Row.is_in group) rows in
    let had = map shows c.loop-group.found.items in
    let step : drop i groups ≡ group ∷ above = drop_more groups i group c.loop-group-test.true ∙ ap (λ y. y ∷ above) (sym c.group-item.is) in
    let rise : IsStrictlySortedBy g.R.Row.group_cmp (group ∷ above) =
    subst (λ (left : List g.row.R-Group.Denot). IsStrictlySortedBy g.R.Row.group_cmp left) step c.loop-group.invariant.2 in
    let now_found : map shows c.push_between.new.found.items ≡ had ++ of group =
    c.in_ok-push_between.ensures ∙ ap (λ more. had ++ more) c.places_from-run.ensures.run in (
      ap (λ found. found ++ flat_map of above) now_found
          ∙ append_assoc had (of group) (flat_map of above)
          ∙ ap (λ left. had ++ flat_map of left) (sym step)
          ∙ c.loop-group.invariant.0,
      c.places_from-run.ensures.in_range,
      sorted_tail g.R.Row.group_cmp group above rise,
      before_next g.R.Row.group_cmp g.met.R.Row.group_order (λ row. g.R.Row.group_of (g.R.Row.key_of row)) items c.places_from-run.result.end group
          c.places_from-run.ensures.before above (rising-first g.R.Row.group_cmp group above rise),
    )
