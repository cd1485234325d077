use Rattle.std.proofs.Common.{◌≡◌, ◌∙◌, sym, ap, rules, true, refl, subst}
use Rattle.std.specs.Result.{result_ok}
use Rattle.std.specs.Str.Parse.{ParsesUnsigned}
use Rattle.clr_http.specs.Length.{is_length}
use Rattle.clr_http.proofs.Digits.{lengths_are_text, parsed}
use Rattle.clr_http.proofs.length.read_digits.Goals as goal

pub returns-in_default : goal.returns-in_default
returns-in_default c =
    let e : is_length c.args.value.now ≡ true = search rules in
    absurd (c.in_default.ensures.cases.0 (lengths_are_text c.args.value.now e))

pub returns : goal.returns
returns c =
    let e : is_length c.args.value.now ≡ true = search rules in
    c.ok.ensures.value ∙ ap result_ok (parsed c.args.value.now c.parse.result e (subst (λ t. ParsesUnsigned 64 10 t c.parse.result) c.in-Ok.ensures.cases.0 c.parse.ensures.value.0)) ∙ sym (rw e refl)
