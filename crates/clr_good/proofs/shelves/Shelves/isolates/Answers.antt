use Rattle.std.proofs.Common.{◌≡◌, ◌∙◌, ap, map, Bor}
use Rattle.clr_rules.proofs.Common.{task, first_of_each, Register, points_of, tasks_of}
use Rattle.clr_good.proofs.CodeFacts.{points_behind, sound_told, tasks_behind}
use Rattle.clr_good.proofs.shelves.Shelves.isolates.Goals as goal
use Rattle.clr_rules.specs.declared.step_row.StepRow.{StepRow}

pub returns : goal.returns
returns g c =
    let shows = λ (row : Bor StepRow). row.now in
    let rows = map shows c.args.first.now in
    let listed : c.deref.result.now ≡ points_of rows = c.deref.ensures.value ∙ c.in_ok-listed.ensures ∙ points_behind shows c.args.first.now in
    let points : c.in_ok-points.points.items ≡ first_of_each (points_of rows) = c.in_ok-points.ensures ∙ ap first_of_each listed in
    let tasks : map task c.deref-4.result.now ≡ tasks_of rows = ap (map task) (c.deref-4.ensures.value ∙ c.in_ok-steps.ensures) ∙ tasks_behind shows c.args.first.now in
    rw c.in-Some.is
    (c.is_sound.ensures
    ∙ sound_told c.self.inside.network.now c.args.self.now.net c.in-Some.work rows c.in_ok-fence.fence c.deref-2.result.now c.deref-3.result.now (map task c.deref-4.result.now)
    (ap (λ (R : Register). R.net) c.self.view_is) c.in_ok-fence.ensures.rows (c.deref-2.ensures.value ∙ points) (c.deref-3.ensures.value ∙ points) tasks)
