use Rattle.std.proofs.Common.{◌≡◌, ◌∙◌, true, refl, sym, ap, rules}
use Rattle.std.specs.Result.{result_ok}
use Rattle.clr_rules.specs.IdText.{is_numeral}
use Rattle.clr_rules.proofs.IdTexts.{parsed}
use Rattle.clr_rules.proofs.clearance_id.read_number.Goals as goal

pub returns : goal.returns
returns c =
    let e : is_numeral c.args.text.now ≡ true = search rules in
    c.ok.ensures.value ∙ ap result_ok (parsed c.args.text.now c.parse.result e c.parse.ensures.value.0) ∙ sym (rw e refl)
