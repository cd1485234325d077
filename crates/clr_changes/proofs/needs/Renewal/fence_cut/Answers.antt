use Rattle.std.proofs.Common.{◌≡◌, ◌∙◌, ap, map, Bor, List, ℕ}
use Rattle.clr_net.specs.Fence.{FenceRows, fence_of}
use Rattle.clr_net.specs.Grid.{Grid, section_names}
use Rattle.clr_book.proofs.NearFacts.{fence_unplaced}
use Rattle.clr_rules.proofs.lists.RoundSteps.{of_round_is}
use Rattle.clr_rules.specs.GoodByPhase.{of_round}
use Rattle.clr_rules.specs.Steps.{points_of, steps_in, steps_of}
use Rattle.clr_rules.specs.declared.step_row.StepRow.{StepRow}
use Rattle.clr_changes.specs.Needs.{Renewal}
use Rattle.clr_changes.proofs.needs.Renewal.fence_cut.Goals as goal

pub returns : goal.returns
returns g c =
    let V = c.args.self.now in
    let id = c.args.id in
    let work = c.args.work in
    let shows = λ (row : Bor StepRow). row.now in
    let own : map shows c.in_ok-steps.steps.items ≡ steps_of V.before.steps id =
    c.in_ok-steps.ensures ∙ ap (λ (V : Renewal). steps_of V.before.steps id) c.self.view_is in
    let cut : c.in_ok-points.points.items ≡ points_of (steps_in V.before.steps id 1) =
    c.in_ok-points.ensures ∙ ap (λ (steps : List StepRow). points_of (of_round steps 1)) (ap (map shows) c.deref.ensures.value ∙ own)
    ∙ ap points_of (of_round_is V.before.steps id 1) in
    ap (λ (f : FenceRows). section_names f.sections) c.in_ok-fence.ensures.rows
    ∙ ap section_names (fence_unplaced c.network.result.now work c.deref-2.result.now)
    ∙ ap (λ (g : Grid). section_names (FenceRows.sections (fence_of g work c.deref-2.result.now)))
    (c.network.ensures.register ∙ ap (λ (V : Renewal). V.before.net) c.self.view_is)
    ∙ ap (λ (points : List (List ℕ)). section_names (FenceRows.sections (fence_of V.before.net work points))) (c.deref-2.ensures.value ∙ cut)
