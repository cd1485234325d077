use Rattle.std.proofs.Common.{map, sym, Bor}
use Rattle.clr_rules.proofs.Common.{IsPermutation-map}
use Rattle.clr_net.proofs.Places.{list_all-permuted}
use Rattle.clr_good.proofs.holds.by_clearance.Goals as goal
use Rattle.clr_rules.specs.declared.hold.Hold.{Hold}

pub returns : goal.returns
returns c test =
    let shows = λ (hold : Bor Hold). hold.now in
    let old = c.args.holds.items in
    let new = c.sort_unstable_by_key.new.self.items in
    sym (list_all-permuted test (map shows old) (map shows new) (IsPermutation-map shows old new c.sort_unstable_by_key.ensures.permutation))
