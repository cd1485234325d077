use Rattle.std.proofs.Common.{◌∙◌, ap, map, List, refl}
use Rattle.clr_net.specs.declared.point.PointRow.{PointRow}
use Rattle.clr_rules.specs.Register.{first_state}
use Rattle.clr_rules.specs.declared.point_state.PointState.{PointState}
use Rattle.clr_update.specs.Changes.{changes}
use Rattle.clr_update.specs.Update.{kept_state}
use Rattle.clr_changes.specs.Renewed.{renewed}
use Rattle.clr_changes.proofs.outcome.after_of.Goals as goal

pub returns : goal.returns
returns g c =
    let R = c.args.book.now.register in
    record {
      network = refl;
      staff = refl;
      states = c.in_ok-states.ensures ∙ ap (λ (points : List PointRow). map (kept_state R.states) (map first_state points)) c.points.ensures.rows;
      changes = c.in_ok-changes.ensures ∙ ap (λ (states : List PointState). changes R (renewed R c.args.network c.args.staff states)) c.deref.ensures.value;
    }
