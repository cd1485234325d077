use Rattle.std.proofs.Common.{◌≡◌, ◌∙◌, ◌==◌, true, sym, ap, map, filter, Bor, List}
use Rattle.clr_rules.specs.Fences.{work_fence}
use Rattle.clr_rules.specs.Records.{is_fenced}
use Rattle.clr_rules.specs.Steps.{points_of, steps_in}
use Rattle.clr_rules.specs.declared.step_row.StepRow.{StepRow}
use Rattle.clr_book.specs.Book.{Shelved}
use Rattle.clr_book.proofs.NearFacts.{first_points_are}
use Rattle.clr_book.proofs.book.Book.record_fence.Goals as goal

pub returns-clause-sections : goal.returns-clause-sections
returns-clause-sections g c =
    let id = c.args.clearance.now.id in
    let R = c.args.self.now.register in
    let rows = g.T.Shelf.rows c.self.inside.steps in
    let steps : rows ≡ R.steps = ap (λ (v : Shelved). v.register.steps) c.self.view_is in
    let points : c.deref-2.result.now ≡ points_of (steps_in R.steps id 1) =
    c.deref-2.ensures.value ∙ c.in_ok-points.ensures
    ∙ ap (λ (found : List StepRow). map (λ row. row.step.point) (filter (λ row. row.round == 1) found)) (ap (map (λ (row : Bor StepRow). row.now)) c.deref.ensures.value ∙ c.in_ok-steps.ensures)
    ∙ first_points_are rows id ∙ ap (λ all. points_of (steps_in all id 1)) steps in
    let fenced : is_fenced c.args.clearance.now.phase ≡ true = sym c.is_fenced.ensures ∙ c.if-not-is_fenced.false in
    rw fenced (c.in_ok-fence.ensures.sections ∙ ap (work_fence R.net c.args.clearance.now.work) points)
