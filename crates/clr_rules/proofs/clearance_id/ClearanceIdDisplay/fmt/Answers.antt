use Rattle.std.proofs.Common.{◌≡◌, ◌∙◌, ◌++◌, ap, rules}
use Rattle.clr_rules.specs.Id.{id_text}
use Rattle.clr_rules.proofs.TextInPlace.{text_after_calls}
use Rattle.clr_rules.proofs.clearance_id.ClearanceIdDisplay.fmt.Goals as goal

pub returns-clause-writes : goal.returns-clause-writes
returns-clause-writes g c =
    let id = id_text c.args.self.now in
    let text : c.as_str.result.now ≡ id =
    c.as_str.ensures.value ∙ text_after_calls _ id _ (search rules) c.new-text.ensures.intact ∙ ap (λ l. l ++ id) c.new-text.ensures.text in
    rw (← text) c.pad.ensures.writes

pub returns-clause-styled : goal.returns-clause-styled
returns-clause-styled g c =
    let id = id_text c.args.self.now in
    let text : c.as_str.result.now ≡ id =
    c.as_str.ensures.value ∙ text_after_calls _ id _ (search rules) c.new-text.ensures.intact ∙ ap (λ l. l ++ id) c.new-text.ensures.text in
    rw (← text) c.pad.ensures.styled
