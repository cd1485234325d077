use Rattle.std.proofs.Common.{◌≡◌, ◌++◌, map, drop, filter, None}
use Rattle.clr_net.specs.Names.{has_name}
use Rattle.clr_rules.specs.Holds.{is_near_hold}
use Rattle.clr_answer.proofs.view.holds_at.Given as goal

abbrev pub invariant-loop-hold : goal.invariant-loop-hold
invariant-loop-hold l =
    let stands = is_near_hold (has_name l.fence) (has_name l.touching) None in
    l.holds.items ++ filter stands (map (λ row. row.now) (drop l.hold-index l.hold-items)) ≡ filter stands l.near.rows.holds
