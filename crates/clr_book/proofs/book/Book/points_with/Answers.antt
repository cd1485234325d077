use Rattle.std.proofs.Common.{◌≡◌, ◌∙◌, ◌++◌, ◌||◌, ap, sym, subst, filter, map, List, ℕ, Bool, Bor}
use Rattle.std.specs.Prelude.{slice_get}
use Rattle.std.specs.List.{filter_map}
use Rattle.clr_net.specs.Fence.{touches}
use Rattle.clr_net.specs.Grid.{Grid}
use Rattle.clr_net.specs.Names.{has_name}
use Rattle.clr_net.specs.declared.point.PointRow.{PointRow}
use Rattle.clr_rules.specs.Fences.{touching_names}
use Rattle.clr_rules.specs.declared.point_state.PointState.{PointState}
use Rattle.clr_book.specs.Book.{Shelved}
use Rattle.clr_book.proofs.FenceNames.{point_names_shown}
use Rattle.clr_book.proofs.NearFacts.{has_name-append, touching_are}
use Rattle.clr_book.proofs.book.Book.points_with.Goals as goal

pub rows_named-requires-clause-rows : goal.rows_named-requires-clause-rows
rows_named-requires-clause-rows g c = rw c.points-2.ensures.rows c.points-2.ensures.network.points_rise

pub returns-clause-same : goal.returns-clause-same
returns-clause-same g c p =
    let inside = has_name c.args.fence.now.sections.items in
    let rows : map (λ (row : Bor PointRow). row.now) c.in_ok-touching.touching.items ≡ filter (touches inside) c.args.self.now.network.points =
    c.in_ok-touching.ensures
    ∙ (λ i. filter_map (slice_get ((c.points.ensures.rows ∙ ap (λ (v : Shelved). v.network.points) c.self.view_is) i)) (c.deref.ensures.value i))
    ∙ c.requires.touching in
    let names : c.in_ok-all.all.items ≡ touching_names c.args.self.now.register.net inside =
    c.in_ok-all.ensures ∙ ap (map (λ (row : Bor PointRow). row.now.name)) c.deref-2.ensures.value
    ∙ point_names_shown (λ (row : Bor PointRow). row.now) c.in_ok-touching.touching.items
    ∙ ap (map (λ (row : PointRow). row.name)) rows
    ∙ ap (λ (g : Grid). map (λ (row : PointRow). row.name) (filter (touches inside) g.points)) (sym (ap (λ (v : Shelved). v.network) c.self.view_is))
    ∙ touching_are inside c.self.inside.network
    ∙ ap (λ (v : Shelved). touching_names v.register.net inside) c.self.view_is in
    c.in_order-names.ensures.same p
    ∙ ap (λ (all : List (List ℕ)). has_name all p) (c.in_ok-extend_from_slice.ensures.items ∙ ap (λ (first : List (List ℕ)). first ++ c.args.others.now) names)
    ∙ has_name-append (touching_names c.args.self.now.register.net inside) c.args.others.now p

pub returns-clause-rows : goal.returns-clause-rows
returns-clause-rows g c =
    c.in_ok-rows.ensures ∙ (λ i. filter (λ (row : PointRow). has_name (c.deref-3.ensures.value i) row.name) (c.points-2.ensures.rows i))
    ∙ ap (λ (v : Shelved). filter (λ row. has_name c.in_order-names.result.items row.name) v.network.points) c.self.view_is

pub returns-clause-states : goal.returns-clause-states
returns-clause-states g c =
    c.in_ok-states.ensures ∙ (λ i. filter (λ (state : PointState). has_name (c.deref-4.ensures.value i) state.point) c.args.self.now.register.states)
