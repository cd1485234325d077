use Rattle.std.proofs.Common.{◌∙◌, ap, Bor, List, ℕ, map}
use Rattle.clr_rules.proofs.Common.{state_key}
use Rattle.clr_good.specs.Points.{same_names}
use Rattle.clr_good.proofs.CodeFacts.{names_behind}
use Rattle.clr_good.proofs.points.has_points.Goals as goal
use Rattle.clr_rules.specs.declared.point_state.PointState.{PointState}

pub returns : goal.returns
returns c =
    c.eq.ensures
    ∙ ap (λ (names : List (List ℕ)). same_names names c.in_ok-named.named.items)
    (c.in_ok-stated.ensures ∙ names_behind (λ (state : Bor PointState). state.now) state_key c.args.states.now)
    ∙ ap (λ (names : List (List ℕ)). same_names (map state_key (map (λ (state : Bor PointState). state.now) c.args.states.now)) names) c.in_ok-named.ensures
