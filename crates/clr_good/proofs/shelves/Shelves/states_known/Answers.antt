use Rattle.std.proofs.Common.{◌∙◌, ap, sym, Bor, List, ℕ, map}
use Rattle.clr_rules.proofs.Common.{Grid, point_names, state_key, Register}
use Rattle.clr_rules.proofs.good.Opening.{unplaced_names}
use Rattle.clr_good.specs.Points.{same_names}
use Rattle.clr_good.proofs.shelves.Shelves.states_known.Goals as goal
use Rattle.clr_rules.specs.declared.point_state.PointState.{PointState}

pub returns : goal.returns
returns g c =
    let stated = map state_key (map (λ (state : Bor PointState). state.now) c.args.states.now) in
    c.in_ok-known.ensures
    ∙ ap (λ (names : List (List ℕ)). same_names stated names)
    (ap point_names c.points.ensures.rows ∙ sym (unplaced_names (Grid.points c.self.inside.network.now))
    ∙ ap (λ (R : Register). point_names (Grid.points R.net)) c.self.view_is)
