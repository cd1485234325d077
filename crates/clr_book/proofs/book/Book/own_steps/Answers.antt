use Rattle.std.proofs.Common.{◌∙◌, None, ap, map, refl, sym, Bor}
use Rattle.clr_rules.specs.Holds.{is_own}
use Rattle.clr_rules.specs.declared.step_row.StepRow.{StepRow}
use Rattle.clr_rules.proofs.lists.Filters.{filter-nothing}
use Rattle.clr_book.proofs.book.Book.own_steps.Goals as goal

pub returns-in-None : goal.returns-in-None
returns-in-None g c =
    rw c.in-None.is
    (ap (map (λ (row : Bor StepRow). row.now)) c.new.ensures.items ∙ sym (filter-nothing (λ (row : StepRow). is_own None row.id) c.args.self.now.register.steps (λ row. refl)))
