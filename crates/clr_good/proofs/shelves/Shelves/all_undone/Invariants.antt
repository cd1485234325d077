use Rattle.std.proofs.Common.{◌≡◌, map, drop}
use Rattle.clr_rules.proofs.Common.{list_all, points_of}
use Rattle.clr_good.specs.Holds.{is_undone_at}
use Rattle.clr_good.proofs.shelves.Shelves.all_undone.Given as goal

abbrev pub invariant-loop-row : goal.invariant-loop-row
invariant-loop-row g l =
    list_all (is_undone_at l.fn.self.holds l.fn.id (map (λ row. row.now) l.fn.second)) (points_of (map (λ row. row.now) (drop l.row-index l.fn.steps)))
    ≡ list_all (is_undone_at l.fn.self.holds l.fn.id (map (λ row. row.now) l.fn.second)) (points_of (map (λ row. row.now) l.fn.steps))
