use Rattle.std.proofs.Common.{◌∙◌, ◌==◌, ap, filter, map, List, Bor}
use Rattle.clr_rules.specs.declared.step_row.StepRow.{StepRow}
use Rattle.clr_book.specs.Book.{Shelved}
use Rattle.clr_book.proofs.NearFacts.{filter_shown}
use Rattle.clr_book.proofs.book.Book.first_rounds.Goals as goal

pub returns : goal.returns
returns g c =
    let first = λ (row : StepRow). row.round == 1 in
    let shows = λ (row : Bor StepRow). row.now in
    ap (map shows) c.in_ok-found.ensures
    ∙ filter_shown shows first c.deref.result.now
    ∙ ap (λ (rows : List (Bor StepRow)). filter first (map shows rows)) c.deref.ensures.value
    ∙ ap (filter first) (c.in_ok-rows.ensures ∙ ap (λ (v : Shelved). v.register.steps) c.self.view_is)
