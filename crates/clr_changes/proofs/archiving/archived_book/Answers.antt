use Rattle.std.proofs.Common.{◌∙◌, ap, filter, not, sym}
use Rattle.clr_rules.specs.Register.{Register}
use Rattle.clr_rules.specs.declared.step_row.StepRow.{StepRow}
use Rattle.clr_changes.specs.Archive.{gives_up}
use Rattle.clr_changes.proofs.archiving.archived_book.Goals as goal

pub returns-clause-register : goal.returns-clause-register
returns-clause-register g c =
    let R = c.args.book.register in
    let stays = λ (row : StepRow). not (gives_up c.args.before R row.id) in
    c.in_ok-after.ensures.register
    ∙ (λ i. record R {
      records = (c.in_ok-records.ensures ∙ ap (λ (S : Register). S.records) (sym c.shelves.ensures)) i;
      steps = (c.in_ok-steps.ensures ∙ ap (λ (S : Register). filter stays S.steps) (sym c.shelves.ensures)) i;
      holds = (c.in_ok-holds.ensures ∙ ap (λ (S : Register). S.holds) (sym c.shelves.ensures)) i;
    })
