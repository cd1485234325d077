use Rattle.std.proofs.Common.{◌≡◌, ◌++◌, map, drop}
use Rattle.clr_rules.specs.Holds.{places_of}
use Rattle.clr_answer.proofs.checks.work.places_of.Given as goal

abbrev pub invariant-loop-hold : goal.invariant-loop-hold
invariant-loop-hold l =
    l.names.items ++ places_of (map (λ row. row.now) (drop l.hold-index l.hold-items)) l.id l.kind ≡ places_of l.near.rows.holds l.id l.kind
