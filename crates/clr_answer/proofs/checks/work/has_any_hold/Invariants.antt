use Rattle.std.proofs.Common.{◌≡◌, map, drop}
use Rattle.clr_rules.specs.Holds.{has_any_hold}
use Rattle.clr_answer.proofs.checks.work.has_any_hold.Given as goal

abbrev pub invariant-loop-hold : goal.invariant-loop-hold
invariant-loop-hold l = has_any_hold (map (λ row. row.now) (drop l.hold-index l.hold-items)) l.id ≡ has_any_hold l.near.rows.holds l.id
