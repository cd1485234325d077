use Rattle.std.proofs.Common.{ap, codes}
use Rattle.std.proofs.lemmas.Result.{on_ok_weaker}
use Rattle.serde_json.specs.Data.{string}
use Rattle.clr_view.proofs.Tokens.{adds_as, adds_then}
use Rattle.clr_view.specs.Tokens.{member_tokens}
use Rattle.clr_view.proofs.values.push_employee.Goals as goal

pub returns : goal.returns
returns c =
    let role = adds_as _ _ c.push_name.new.out c.push_text.new.out (ap (λ t. member_tokens (codes "role") (string t)) c.role_text.ensures) c.in_ok-push_text.ensures in
    on_ok_weaker c.end.result
    (λ e. adds_then _ _ _ _ _ c.in_ok-begin.ensures (adds_then _ _ _ _ _ c.in_ok-push_name.ensures
    (adds_then _ _ _ _ _ role (adds_then _ _ _ _ _ c.in_ok-push_name_or_null.ensures e))))
    c.end.ensures
