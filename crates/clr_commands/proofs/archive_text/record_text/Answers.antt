use Rattle.std.proofs.Common.{◌≡◌, ◌∙◌, false, ap, map}
use Rattle.std.proofs.lemmas.Result.{IfOk-weaker}
use Rattle.serde_json.specs.Written.{compact_text, has_float}
use Rattle.serde_json.specs.View.{view}
use Rattle.clr_commands.proofs.ArchiveLines.{in_record}
use Rattle.clr_commands.proofs.archive_text.record_text.Goals as goal

pub returns : goal.returns
returns c =
    let e = c.in_ok-value.ensures in
    let none : has_float (view c.in_ok-value.value) ≡ false = rw e (in_record c.args.closed.now (map (λ row. row.now) c.args.steps.now)) in
    IfOk-weaker c.to_string.result _ _ (λ text h. h none ∙ ap compact_text e) c.to_string.ensures.text
