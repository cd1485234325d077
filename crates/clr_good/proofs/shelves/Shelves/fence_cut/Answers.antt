use Rattle.std.proofs.Common.{◌≡◌, ◌∙◌, ap, map, Bor, List}
use Rattle.clr_rules.proofs.Common.{of_round, Register, points_of, steps_of}
use Rattle.clr_good.proofs.CodeFacts.{cut_told, points_behind}
use Rattle.clr_good.proofs.shelves.Shelves.fence_cut.Goals as goal
use Rattle.clr_rules.specs.declared.step_row.StepRow.{StepRow}

pub returns : goal.returns
unfolding steps_of
returns g c =
    let shows = λ (row : Bor StepRow). row.now in
    let own : map shows c.in_ok-steps.steps.items ≡ steps_of c.args.self.now.steps c.args.id =
    c.in_ok-steps.ensures ∙ ap (λ (R : Register). steps_of R.steps c.args.id) c.self.view_is in
    let rows : map shows c.in_ok-first.first.items ≡ of_round (steps_of c.args.self.now.steps c.args.id) 1 =
    c.in_ok-first.ensures ∙ ap (λ (steps : List StepRow). of_round steps 1) (ap (map shows) c.deref.ensures.value ∙ own) in
    let cut : c.in_ok-points.points.items ≡ points_of (of_round (steps_of c.args.self.now.steps c.args.id) 1) =
    c.in_ok-points.ensures ∙ points_behind shows c.deref-2.result.now ∙ ap points_of (ap (map shows) c.deref-2.ensures.value ∙ rows) in
    cut_told c.self.inside.network.now c.args.self.now.net c.args.work (of_round (steps_of c.args.self.now.steps c.args.id) 1) c.in_ok-fence.fence c.deref-3.result.now
    (ap (λ (R : Register). R.net) c.self.view_is) c.in_ok-fence.ensures.rows (c.deref-3.ensures.value ∙ cut)
