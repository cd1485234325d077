use Rattle.std.proofs.Common.{◌≡◌, drop, map}
use Rattle.clr_changes.specs.Needs.{first_row}
use Rattle.clr_changes.proofs.needs.Renewal.first_row.Given as goal

abbrev pub invariant-loop-record : goal.invariant-loop-record
invariant-loop-record g l =
    first_row l.fn.self l.fn.need (map (λ r. r.now) (drop l.record-index l.fn.records)) ≡ first_row l.fn.self l.fn.need (map (λ r. r.now) l.fn.records)
