use Rattle.std.proofs.Common.{◌≡◌, ◌∙◌, Bor, ap, filter, map, sym}
use Rattle.clr_book.proofs.NearFacts.{filter_shown}
use Rattle.clr_net.proofs.ListFacts.{map-map}
use Rattle.clr_rules.specs.Register.{Register}
use Rattle.clr_rules.specs.StepKey.{step_key}
use Rattle.clr_rules.specs.declared.step_row.StepRow.{StepRow}
use Rattle.clr_changes.specs.Archive.{gives_up}
use Rattle.clr_changes.proofs.archived_records.keys_that_go.Goals as goal

pub returns : goal.returns
returns g c =
    let R = c.args.book.now.register in
    let rows = c.as_slice.result.now in
    let shows = λ (row : Bor StepRow). row.now in
    let goes = λ (row : StepRow). gives_up c.args.before R row.id in
    let lent : map shows rows ≡ R.steps =
    ap (map shows) c.as_slice.ensures.value ∙ c.in_ok-rows.ensures ∙ ap (λ (r : Register). r.steps) (sym c.shelves.ensures) in
    c.in_ok-keys.ensures ∙ sym (map-map step_key shows (filter (λ (row : Bor StepRow). goes (shows row)) rows))
    ∙ ap (map step_key) (filter_shown shows goes rows ∙ ap (filter goes) lent)
