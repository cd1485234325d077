use Rattle.std.proofs.Common.{ap, codes}
use Rattle.std.proofs.lemmas.Result.{on_ok_weaker}
use Rattle.serde_json.specs.Data.{boolean}
use Rattle.clr_view.proofs.Tokens.{adds_as, adds_then}
use Rattle.clr_view.specs.Tokens.{member_tokens}
use Rattle.clr_view.proofs.view.Drawing.push_section.Goals as goal

pub returns : goal.returns
returns g c =
    let live = adds_as _ _ c.push_holders.new.out c.push_flag.new.out (ap (λ b. member_tokens (codes "live") (boolean b)) c.is_live.ensures) c.in_ok-push_flag.ensures in
    on_ok_weaker c.end.result
    (λ e. adds_then _ _ _ _ _ c.in_ok-begin.ensures (adds_then _ _ _ _ _ c.in_ok-push_holders.ensures
    (adds_then _ _ _ _ _ live (adds_then _ _ _ _ _ c.in_ok-push_name.ensures (adds_then _ _ _ _ _ c.in_ok-push_flag-2.ensures e)))))
    c.end.ensures
