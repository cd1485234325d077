use Rattle.std.proofs.Common.{◌∙◌, ◌<◌, ap, length, sym, is_some}
use Rattle.clr_net.specs.Prelude.{Grid, section_names, same_name}
use Rattle.clr_net.proofs.FencePlaces.{finds_fence, index_fits, no_fence}
use Rattle.clr_net.proofs.PlaceLists.{all_from_has, has_all}
use Rattle.clr_net.proofs.Places.{is_some-position}
use Rattle.clr_net.proofs.reach.fence_places.Goals as goal

pub returns-in_default-clause-fence : goal.returns-in_default-clause-fence
returns-in_default-clause-fence c i inside =
    let g : Grid = record { sections = c.args.sections.now; points = c.args.points.now } in
    let unknown = sym (is_some-position (same_name c.args.work) (section_names c.args.sections.now)) ∙ ap is_some (sym c.place_of.ensures ∙ c.in_default.is) in
    rw c.new.ensures.items (sym (no_fence g c.args.work c.args.cut.now _ unknown))

pub reach-requires-clause-starts : goal.reach-requires-clause-starts
reach-requires-clause-starts c = c.requires.index.starts

pub reach-requires-clause-fit : goal.reach-requires-clause-fit
reach-requires-clause-fit c =
    let g : Grid = record { sections = c.args.sections.now; points = c.args.points.now } in
    (length c.args.points.now, index_fits g c.requires.network c.args.ways.now c.requires.index)

pub returns-clause-inside : goal.returns-clause-inside
returns-clause-inside c =
    all_from_has (λ i. i < length c.args.sections.now) c.in_order.result.items (λ i there.
    has_all (λ i. i < length c.args.sections.now) c.in_ok-found.found.items i c.in_ok-found.ensures.inside (sym (c.in_order.ensures.same i) ∙ there))

pub returns-clause-fence : goal.returns-clause-fence
returns-clause-fence c i inside =
    let g : Grid = record { sections = c.args.sections.now; points = c.args.points.now } in
    c.in_order.ensures.same i
    ∙ finds_fence g c.requires.network c.args.ways.now c.requires.index c.args.work c.args.cut.now c.in_ok-cuts.cuts.items c.in_ok-cuts.ensures.cut c.in-Some.start
    c.in_ok-found.found.items (sym c.place_of.ensures ∙ c.in-Some.is) (rw c.deref.ensures.value at c.in_ok-found.ensures.finds) i inside
