use Rattle.std.proofs.Common.{◌≡◌, map, drop}
use Rattle.std.specs.List.{list_all}
use Rattle.clr_good.specs.Staffed.{holds_some_point}
use Rattle.clr_good.proofs.shelves.Shelves.each_holds_some_point.Given as goal

abbrev pub invariant-loop-record : goal.invariant-loop-record
invariant-loop-record g l =
    list_all (holds_some_point l.fn.self) (map (λ x. x.now) (drop l.record-index l.fn.records)) ≡ list_all (holds_some_point l.fn.self) (map (λ x. x.now) l.fn.records)
