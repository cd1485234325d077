use Rattle.std.proofs.Common.{◌≡◌, ◌++◌, drop, filter, map}
use Rattle.clr_rules.specs.Holds.{has_hold, held_at}
use Rattle.clr_rules.specs.declared.hold_kind.HoldKind.TheVariants.{HeldOpen}
use Rattle.clr_answer.proofs.checks.orders.held_among.Given as goal

abbrev pub invariant-loop-point : goal.invariant-loop-point
invariant-loop-point l =
    l.held.items ++ map (held_at l.near.rows.holds l.id) (filter (has_hold l.near.rows.holds l.id HeldOpen) (drop l.point-index l.points))
    ≡ map (held_at l.near.rows.holds l.id) (filter (has_hold l.near.rows.holds l.id HeldOpen) l.points)
