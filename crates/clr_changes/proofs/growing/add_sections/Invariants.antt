use Rattle.std.proofs.Common.{◌≡◌, drop, map}
use Rattle.clr_rules.specs.Edits.{fit}
use Rattle.clr_rules.specs.declared.change.Edit.TheVariants.{AddSection}
use Rattle.clr_changes.specs.Growing.{grown}
use Rattle.clr_changes.proofs.growing.add_sections.Given as goal

-- those that are left fit as all do, and end where all would have
abbrev pub invariant-loop-row : goal.invariant-loop-row
invariant-loop-row l =
    (fit l.network (map AddSection (drop l.row-index l.fn.rows)) ≡ fit l.initial.network (map AddSection l.fn.rows))
    × (grown (map AddSection (drop l.row-index l.fn.rows)) l.network ≡ grown (map AddSection l.fn.rows) l.initial.network)
