use Rattle.std.proofs.Common.{◌≡◌, ◌∙◌, ◌+◌, ◌∷◌, Some, ap, drop, map, Bor, List, refl, sym}
use Rattle.std.proofs.lemmas.List.{drop_all}
use Rattle.clr_answer.proofs.RowLoops.{drop_step, passed_over}
use Rattle.clr_rules.specs.declared.record.Record.{Record}
use Rattle.clr_changes.specs.Needs.{first_row}
use Rattle.clr_changes.proofs.NeededRows.{found, none_left, passed}
use Rattle.clr_changes.proofs.needs.Renewal.first_row.Goals as goal

pub loop-record-preserved : goal.loop-record-preserved
loop-record-preserved g c =
    let V = c.args.self.now in
    let need = c.args.need in
    let records = c.args.records.now in
    let i = c.loop-record.record-index in
    let row = c.record-item.result in
    let shows = λ (r : Bor Record). r.now in
    passed_over (λ (rows : List (Bor Record)). first_row V need (map shows rows)) records i row _ c.record-item.is c.loop-record-test.true
    (passed V need row.now (map shows (drop (i + 1) records)) (sym c.in_ok-found.ensures ∙ c.in_default.is)) c.loop-record.invariant

pub returns-in-Some : goal.returns-in-Some
returns-in-Some g c =
    let V = c.args.self.now in
    let need = c.args.need in
    let records = c.args.records.now in
    let i = c.loop-record.record-index in
    let row = c.record-item.result in
    let shows = λ (r : Bor Record). r.now in
    let step : drop i records ≡ row ∷ drop (i + 1) records = drop_step records records i row refl c.record-item.is c.loop-record-test.true in
    ap Some c.obstacle.ensures
    ∙ sym (found V need row.now (map shows (drop (i + 1) records)) c.in-Some.name (sym c.in_ok-found.ensures ∙ c.in-Some.is))
    ∙ ap (λ (rows : List (Bor Record)). first_row V need (map shows rows)) (sym step) ∙ c.loop-record.invariant

pub returns : goal.returns
returns g c =
    let V = c.args.self.now in
    let shows = λ (r : Bor Record). r.now in
    sym (none_left V c.args.need)
    ∙ ap (λ (rows : List (Bor Record)). first_row V c.args.need (map shows rows)) (sym (drop_all c.loop-record.record-index c.args.records.now c.loop-record-test.false))
    ∙ c.loop-record.invariant
