use Rattle.std.proofs.Common.{◌≡◌, drop, map}
use Rattle.clr_rules.specs.Edits.{fit}
use Rattle.clr_rules.specs.declared.change.Edit.TheVariants.{AddPoint}
use Rattle.clr_changes.specs.Growing.{grown}
use Rattle.clr_changes.proofs.growing.add_points.Given as goal

-- those that are left fit as all do, and end where all would have
abbrev pub invariant-loop-row : goal.invariant-loop-row
invariant-loop-row l =
    (fit l.network (map AddPoint (drop l.row-index l.fn.rows)) ≡ fit l.initial.network (map AddPoint l.fn.rows))
    × (grown (map AddPoint (drop l.row-index l.fn.rows)) l.network ≡ grown (map AddPoint l.fn.rows) l.initial.network)
