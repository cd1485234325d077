use Rattle.std.proofs.Common.{◌≡◌, ◌∙◌, [], ◌∷◌, ap, filter, map, Bor, List}
use Rattle.clr_rules.specs.Records.{is_open}
use Rattle.clr_rules.specs.declared.record.Record.{Record}
use Rattle.clr_update.specs.Update.{first_obstacle, open_records}
use Rattle.clr_changes.specs.Parts.{first_rows}
use Rattle.clr_changes.specs.declared.needs.Need.TheVariants.{Step, Work, Holder, Reader, Requester}
use Rattle.clr_changes.proofs.needs.Renewal.first_open.Goals as goal

pub returns : goal.returns
returns g c =
    let V = c.args.self.now in
    let shows = λ (r : Bor Record). r.now in
    let all : map shows c.deref.result.now ≡ open_records V.before =
    ap (map shows) c.deref.ensures.value ∙ c.in_ok-unclosed.ensures ∙ ap (filter (λ (r : Record). is_open r.phase)) c.requires in
    c.in_ok-found.ensures ∙ ap (λ (rows : List Record). first_obstacle (first_rows V (Step ∷ Work ∷ Holder ∷ Reader ∷ Requester ∷ []) rows)) all
