use Rattle.std.proofs.Common.{◌≡◌, map, drop}
use Rattle.std.specs.List.{list_all}
use Rattle.clr_good.specs.Staffed.{holder_fits}
use Rattle.clr_good.proofs.shelves.Shelves.each_holder_fits.Given as goal

abbrev pub invariant-loop-record : goal.invariant-loop-record
invariant-loop-record g l =
    list_all (holder_fits l.fn.self) (map (λ x. x.now) (drop l.record-index l.fn.records)) ≡ list_all (holder_fits l.fn.self) (map (λ x. x.now) l.fn.records)
