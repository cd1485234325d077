use Rattle.std.proofs.Common.{◌≡◌, map, drop}
use Rattle.clr_good.specs.Holds.{all_put_stands}
use Rattle.clr_good.proofs.shelves.Shelves.all_put_stands.Given as goal

abbrev pub invariant-loop-row : goal.invariant-loop-row
invariant-loop-row g l =
    all_put_stands l.fn.self.holds l.fn.id (map (λ row. row.now) (drop l.row-index l.fn.steps)) ≡ all_put_stands l.fn.self.holds l.fn.id (map (λ row. row.now) l.fn.steps)
