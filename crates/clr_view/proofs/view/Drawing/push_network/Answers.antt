use Rattle.std.proofs.lemmas.Result.{on_ok_weaker}
use Rattle.clr_view.proofs.Tokens.{adds_then}
use Rattle.clr_view.proofs.view.Drawing.push_network.Goals as goal

pub returns : goal.returns
returns g c =
    on_ok_weaker c.end.result
    (λ e. adds_then _ _ _ _ _ c.in_ok-begin.ensures (adds_then _ _ _ _ _ c.in_ok-push_points.ensures
    (adds_then _ _ _ _ _ c.in_ok-push_sections.ensures (adds_then _ _ _ _ _ c.in_ok-push_staff.ensures e))))
    c.end.ensures
