use Rattle.std.proofs.Common.{◌≡◌, ◌++◌, map, drop, filter}
use Rattle.clr_net.specs.Names.{has_name}
use Rattle.clr_rules.specs.declared.point_state.PointState.{PointState}
use Rattle.clr_answer.proofs.view.touching_states.Given as goal

abbrev pub invariant-loop-state : goal.invariant-loop-state
invariant-loop-state l =
    let beside = λ (state : PointState). has_name l.touching state.point in
    l.states.items ++ filter beside (map (λ row. row.now) (drop l.state-index l.state-items)) ≡ filter beside l.near.rows.states
