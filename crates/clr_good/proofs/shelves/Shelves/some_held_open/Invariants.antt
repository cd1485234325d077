use Rattle.std.proofs.Common.{◌≡◌, map, drop}
use Rattle.clr_rules.proofs.Common.{has_hold, list_any, points_of}
use Rattle.clr_rules.specs.declared.hold_kind.HoldKind.TheVariants.{HeldOpen}
use Rattle.clr_good.proofs.shelves.Shelves.some_held_open.Given as goal

abbrev pub invariant-loop-row : goal.invariant-loop-row
invariant-loop-row g l =
    list_any (has_hold l.fn.self.holds l.fn.id HeldOpen) (points_of (map (λ row. row.now) (drop l.row-index l.fn.steps)))
    ≡ list_any (has_hold l.fn.self.holds l.fn.id HeldOpen) (points_of (map (λ row. row.now) l.fn.steps))
