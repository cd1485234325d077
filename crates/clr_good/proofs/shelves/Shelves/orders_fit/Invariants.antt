use Rattle.std.proofs.Common.{◌≡◌, map, drop}
use Rattle.std.specs.List.{list_all}
use Rattle.clr_good.specs.Steps.{record_steps_fit}
use Rattle.clr_good.proofs.shelves.Shelves.orders_fit.Given as goal

abbrev pub invariant-loop-record : goal.invariant-loop-record
invariant-loop-record g l =
    list_all (record_steps_fit l.fn.self) (map (λ x. x.now) (drop l.record-index l.fn.records)) ≡ list_all (record_steps_fit l.fn.self) (map (λ x. x.now) l.fn.records)
