use Rattle.std.proofs.Common.{ap, codes}
use Rattle.std.proofs.lemmas.Result.{on_ok_weaker}
use Rattle.clr_text.specs.Json.{id_data, optional_data}
use Rattle.clr_view.proofs.Tokens.{adds_as, adds_then}
use Rattle.clr_view.specs.Tokens.{member_tokens}
use Rattle.clr_view.specs.View.{position_data}
use Rattle.clr_view.proofs.view.Drawing.push_point.Goals as goal

pub returns : goal.returns
returns g c =
    let hand = adds_as _ _ c.push_name.new.out c.push_clearance_or_null.new.out
    (ap (λ h. member_tokens (codes "hand") (optional_data id_data h)) c.hand.ensures) c.in_ok-push_clearance_or_null.ensures in
    let position = adds_as _ _ c.push_name-2.new.out c.push_position_or_null.new.out
    (ap (λ p. member_tokens (codes "position") (optional_data position_data p)) c.position.ensures) c.in_ok-push_position_or_null.ensures in
    on_ok_weaker c.end.result
    (λ e. adds_then _ _ _ _ _ c.in_ok-begin.ensures (adds_then _ _ _ _ _ c.in_ok-push_name.ensures
    (adds_then _ _ _ _ _ hand (adds_then _ _ _ _ _ c.in_ok-push_holders.ensures
    (adds_then _ _ _ _ _ c.in_ok-push_flag.ensures (adds_then _ _ _ _ _ c.in_ok-push_flag-2.ensures
    (adds_then _ _ _ _ _ c.in_ok-push_name-2.ensures (adds_then _ _ _ _ _ position
    (adds_then _ _ _ _ _ c.in_ok-push_flag-3.ensures (adds_then _ _ _ _ _ c.in_ok-push_name-3.ensures e))))))))))
    c.end.ensures
