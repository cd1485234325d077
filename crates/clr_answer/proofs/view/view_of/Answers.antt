use Rattle.std.proofs.Common.{◌≡◌, ◌∙◌, filter, map, None, ap, sym}
use Rattle.clr_net.specs.Names.{has_name}
use Rattle.clr_rules.specs.Fences.{touching_names}
use Rattle.clr_rules.specs.Holds.{in_kind_order, is_near_hold}
use Rattle.clr_rules.specs.declared.point_state.PointState.{PointState}
use Rattle.clr_rules.specs.declared.step_row.StepRow.{StepRow}
use Rattle.clr_answer.proofs.view.view_of.Goals as goal

pub returns : goal.returns
returns c =
    let R = c.args.near.now.rows in
    let fence = c.in_ok-fence.ensures.names in
    let named = c.in_ok-named.ensures ∙ ap (λ names. touching_names R.net (has_name names)) (c.deref.ensures.value ∙ fence) in
    let touching : has_name c.in_order-touching.result.items ≡ has_name (touching_names R.net (has_name c.args.near.now.known.fence)) = (λ i p. c.in_order-touching.ensures.same p i) ∙ ap has_name named in
    let inside = c.deref-2.ensures.value ∙ fence in
    let beside = ap has_name c.deref-3.ensures.value ∙ touching in
    let near_points = ap has_name c.deref-5.ensures.value ∙ touching in
    let near_holds = c.in_ok-near_holds.ensures ∙ (λ i. filter (is_near_hold (has_name (inside i)) (beside i) None) R.holds) in
    let holds = c.in_ok-holds.ensures ∙ ap in_kind_order (c.deref-4.ensures.value ∙ near_holds) in
    let points = c.in_ok-points.ensures ∙ (λ i. filter (λ (state : PointState). near_points i state.point) R.states) in
    let steps = c.in_ok-steps.ensures ∙ ap (map (λ (row : StepRow). row.step)) (sym c.last_round.ensures) in
    λ i. record {
      card = c.card.ensures i;
      crews = (c.new.ensures ∙ c.in_ok-crews.ensures) i;
      fence = (c.new-2.ensures ∙ fence) i;
      holds = (c.new-3.ensures ∙ holds) i;
      points = (c.new-4.ensures ∙ points) i;
      steps = (c.new-5.ensures ∙ steps) i;
      work = c.args.clearance.now.work;
    }

pub touching_names-requires : goal.touching_names-requires
touching_names-requires c = rw c.deref.ensures.value c.in_ok-fence.ensures.rising

pub holds_at-requires-clause-sections : goal.holds_at-requires-clause-sections
holds_at-requires-clause-sections c = rw c.deref-2.ensures.value c.in_ok-fence.ensures.rising

pub holds_at-requires-clause-points : goal.holds_at-requires-clause-points
holds_at-requires-clause-points c = rw c.deref-3.ensures.value c.in_order-touching.ensures.rising

pub touching_states-requires : goal.touching_states-requires
touching_states-requires c = rw c.deref-5.ensures.value c.in_order-touching.ensures.rising
