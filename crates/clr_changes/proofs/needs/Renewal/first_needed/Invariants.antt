use Rattle.std.proofs.Common.{◌≡◌, drop, map}
use Rattle.clr_update.specs.Update.{first_obstacle}
use Rattle.clr_changes.specs.Parts.{first_rows}
use Rattle.clr_changes.proofs.needs.Renewal.first_needed.Given as goal

abbrev pub invariant-loop-need : goal.invariant-loop-need
invariant-loop-need g l =
    first_obstacle (first_rows l.fn.self (drop l.need-index l.fn.needs) (map (λ r. r.now) l.fn.records)) ≡ first_obstacle (first_rows l.fn.self l.fn.needs (map (λ r. r.now) l.fn.records))
