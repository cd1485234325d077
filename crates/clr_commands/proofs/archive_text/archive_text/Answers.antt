use Rattle.std.proofs.Common.{◌≡◌, ◌∙◌, ◌++◌, Bor, List, ap, flat_map, map, string_bytes, sym}
use Rattle.std.proofs.lemmas.List.{append-nil, drop_all}
use Rattle.clr_rules.specs.Steps.{steps_of}
use Rattle.clr_rules.specs.declared.record.Record.{Record}
use Rattle.clr_commands.specs.ArchiveText.{record_line}
use Rattle.clr_commands.proofs.ArchiveLines.{lines_shown}
use Rattle.clr_commands.proofs.archive_text.archive_text.Goals as goal

-- the lines of all records
pub returns : goal.returns
returns g c =
    let R = c.args.book.now.register in
    let line = λ (r : Record). record_line r (steps_of R.steps r.id) in
    let shows = λ (row : Bor Record). row.now in
    let items = c.deref-closed-items.result.now in
    let text = string_bytes c.loop-closed.text in
    let none = drop_all c.loop-closed.closed-index items c.loop-closed-test.false in
    let all : text ≡ flat_map (λ (row : Bor Record). line row.now) items =
    sym (append-nil text) ∙ ap (λ (rest : List (Bor Record)). text ++ flat_map (λ (row : Bor Record). line row.now) rest) (sym none) ∙ c.loop-closed.invariant in
    all ∙ lines_shown line shows items ∙ ap (flat_map line) (ap (map shows) c.deref-closed-items.ensures.value ∙ c.in_ok-records.ensures)
