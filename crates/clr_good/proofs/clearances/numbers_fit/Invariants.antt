use Rattle.std.proofs.Common.{◌≡◌, None, map, drop}
use Rattle.clr_good.specs.Clearances.{numbers_fit}
use Rattle.clr_good.proofs.clearances.numbers_fit.Given as goal

abbrev pub invariant-loop-record : goal.invariant-loop-record
invariant-loop-record l =
    numbers_fit l.before (map (λ r. r.now) (drop l.record-index l.fn.records)) ≡ numbers_fit None (map (λ r. r.now) l.fn.records)
