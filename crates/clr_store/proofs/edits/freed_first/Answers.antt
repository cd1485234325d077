use Rattle.std.proofs.Common.{◌≡◌, rules}
use Rattle.clr_store.proofs.Placing.{freed_two}
use Rattle.clr_store.proofs.edits.freed_first.Goals as goal

pub returns-then-eq : goal.returns-then-eq
returns-then-eq c =
    let same : c.in_ok-point.point ≡ c.in_ok-other.other = search rules in
    freed_two c.args.edits.now c.first-item.result c.second-item.result c.in_ok-point.point c.in_ok-other.other c.in_ok-point.position c.in-len2-up.len_at_least c.first-item.is c.second-item.is
    c.in_ok-point.ensures c.in_ok-other.ensures same
