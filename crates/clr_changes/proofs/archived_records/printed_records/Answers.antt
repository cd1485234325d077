use Rattle.std.proofs.Common.{◌≡◌, ◌∙◌, Bor, ap, filter, map, rules}
use Rattle.clr_book.proofs.NearFacts.{filter_shown}
use Rattle.clr_rules.specs.declared.record.Record.{Record}
use Rattle.clr_changes.specs.Archive.{is_printed}
use Rattle.clr_changes.proofs.archived_records.printed_records.Goals as goal

pub returns : goal.returns
returns g c =
    let R = c.args.book.now.register in
    let rows = c.as_slice.result.now in
    let lent : map (λ (row : Bor Record). row.now) rows ≡ R.records = search rules in
    ap (map (λ (row : Bor Record). row.now)) c.in_ok-found.ensures
    ∙ filter_shown (λ (row : Bor Record). row.now) (is_printed c.args.before R) rows
    ∙ ap (filter (is_printed c.args.before R)) lent
