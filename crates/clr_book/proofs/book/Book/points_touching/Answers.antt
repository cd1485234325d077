use Rattle.std.proofs.Common.{◌≡◌, ◌∙◌, ap, sym, subst, filter, map, List, ℕ, Bool, Bor}
use Rattle.std.specs.Prelude.{slice_get}
use Rattle.std.specs.List.{filter_map}
use Rattle.std.specs.List.Sorted.{IsStrictlySortedBy}
use Rattle.clr_answer.proofs.SortedRows.{rising-filter}
use Rattle.clr_net.specs.Fence.{touches}
use Rattle.clr_net.specs.Grid.{Grid, IsNetwork, point_names}
use Rattle.clr_net.specs.Name.{name_cmp}
use Rattle.clr_net.specs.Names.{has_name}
use Rattle.clr_net.specs.declared.point.PointRow.{PointRow}
use Rattle.clr_rules.specs.Fences.{touching_names}
use Rattle.clr_rules.specs.declared.point_state.PointState.{PointState}
use Rattle.clr_book.specs.Book.{Shelved}
use Rattle.clr_book.proofs.FenceNames.{point_names_shown}
use Rattle.clr_book.proofs.Lent.{kept_by_name}
use Rattle.clr_book.proofs.NearFacts.{touching_are}
use Rattle.clr_book.proofs.book.Book.points_touching.Goals as goal

-- what was found at the places, and its names
found_rows : (N g : Grid) (inside : List ℕ → Bool) (rows found : List PointRow) (places given : List ℕ) → found ≡ filter_map (slice_get rows) places
    → rows ≡ N.points → places ≡ given → N ≡ g → filter_map (slice_get g.points) given ≡ filter (touches inside) g.points → found ≡ filter (touches inside) N.points
found_rows N g inside rows found places given is rows_are places_are same picked =
    is ∙ (λ i. filter_map (slice_get (rows_are i)) (places_are i))
    ∙ subst (λ (g : Grid). filter_map (slice_get g.points) given ≡ filter (touches inside) g.points) (sym same) picked

found_names : (items shown : List (Bor PointRow)) (names : List (List ℕ)) (rows : List PointRow) → names ≡ map (λ row. row.now.name) shown → shown ≡ items
    → map (λ (row : Bor PointRow). row.now) items ≡ rows → names ≡ point_names rows
found_names items shown names rows is same rows_are =
    is ∙ ap (map (λ (row : Bor PointRow). row.now.name)) same ∙ point_names_shown (λ (row : Bor PointRow). row.now) items ∙ ap point_names rows_are

names_rise : (N : Grid) → IsNetwork N → (inside : List ℕ → Bool) (names : List (List ℕ)) → names ≡ point_names (filter (touches inside) N.points) → IsStrictlySortedBy name_cmp names
names_rise N net inside names are =
    subst (λ (names : List (List ℕ)). IsStrictlySortedBy name_cmp names) (sym are)
    (rising-filter name_cmp (λ (row : PointRow). row.name) (touches inside) N.points net.points_rise)

pub states_at-requires : goal.states_at-requires
states_at-requires g c =
    let N = c.self.inside.network in
    let inside = has_name c.args.fence.now.sections.items in
    let rows = found_rows N c.args.self.now.network inside c.points.result.now (map (λ (row : Bor PointRow). row.now) c.in_ok-rows.rows.items) c.deref.result.now c.args.fence.now.places.touching.items
    c.in_ok-rows.ensures c.points.ensures.rows c.deref.ensures.value (ap (λ (v : Shelved). v.network) c.self.view_is) c.requires.touching in
    let names = found_names c.in_ok-rows.rows.items c.deref-2.result.now c.in_ok-names.names.items (filter (touches inside) N.points) c.in_ok-names.ensures c.deref-2.ensures.value rows in
    names_rise N c.points.ensures.network inside c.deref-3.result.now (c.deref-3.ensures.value ∙ names)

pub returns-clause-rising : goal.returns-clause-rising
returns-clause-rising g c =
    let N = c.self.inside.network in
    let inside = has_name c.args.fence.now.sections.items in
    let rows = found_rows N c.args.self.now.network inside c.points.result.now (map (λ (row : Bor PointRow). row.now) c.in_ok-rows.rows.items) c.deref.result.now c.args.fence.now.places.touching.items
    c.in_ok-rows.ensures c.points.ensures.rows c.deref.ensures.value (ap (λ (v : Shelved). v.network) c.self.view_is) c.requires.touching in
    let names = found_names c.in_ok-rows.rows.items c.deref-2.result.now c.in_ok-names.names.items (filter (touches inside) N.points) c.in_ok-names.ensures c.deref-2.ensures.value rows in
    names_rise N c.points.ensures.network inside c.in_ok-names.names.items names

pub returns-clause-same : goal.returns-clause-same
returns-clause-same g c =
    let N = c.self.inside.network in
    let inside = has_name c.args.fence.now.sections.items in
    let rows = found_rows N c.args.self.now.network inside c.points.result.now (map (λ (row : Bor PointRow). row.now) c.in_ok-rows.rows.items) c.deref.result.now c.args.fence.now.places.touching.items
    c.in_ok-rows.ensures c.points.ensures.rows c.deref.ensures.value (ap (λ (v : Shelved). v.network) c.self.view_is) c.requires.touching in
    let names = found_names c.in_ok-rows.rows.items c.deref-2.result.now c.in_ok-names.names.items (filter (touches inside) N.points) c.in_ok-names.ensures c.deref-2.ensures.value rows in
    names ∙ touching_are inside N ∙ ap (λ (v : Shelved). touching_names v.register.net inside) c.self.view_is

pub returns-clause-rows : goal.returns-clause-rows
returns-clause-rows g c =
    let N = c.self.inside.network in
    let inside = has_name c.args.fence.now.sections.items in
    let rows = found_rows N c.args.self.now.network inside c.points.result.now (map (λ (row : Bor PointRow). row.now) c.in_ok-rows.rows.items) c.deref.result.now c.args.fence.now.places.touching.items
    c.in_ok-rows.ensures c.points.ensures.rows c.deref.ensures.value (ap (λ (v : Shelved). v.network) c.self.view_is) c.requires.touching in
    let names = found_names c.in_ok-rows.rows.items c.deref-2.result.now c.in_ok-names.names.items (filter (touches inside) N.points) c.in_ok-names.ensures c.deref-2.ensures.value rows in
    rows ∙ sym (kept_by_name (λ (row : PointRow). row.name) N.points c.points.ensures.network.points_rise (touches inside))
    ∙ (λ i. filter (λ (row : PointRow). has_name (sym names i) row.name) N.points)
    ∙ ap (λ (v : Shelved). filter (λ row. has_name c.in_ok-names.names.items row.name) v.network.points) c.self.view_is

pub returns-clause-states : goal.returns-clause-states
returns-clause-states g c =
    c.in_ok-states.ensures ∙ (λ i. filter (λ (state : PointState). has_name (c.deref-3.ensures.value i) state.point) c.args.self.now.register.states)
