use Rattle.std.proofs.Common.{◌∙◌, ap, ℕ, List}
use Rattle.std.proofs.lemmas.List.Filters.{dedup_is}
use Rattle.std.proofs.lemmas.Map.Keys.{IsStrictlyIncreasing-dedup}
use Rattle.clr_net.specs.Index.{has_place}
use Rattle.clr_net.proofs.PlaceLists.{has_place-in_order}
use Rattle.clr_net.proofs.reach.in_order.Goals as goal

pub returns-clause-rising : goal.returns-clause-rising
returns-clause-rising c = rw (dedup_is _ _ _ c.dedup.ensures.filtered) (IsStrictlyIncreasing-dedup _ c.sort_unstable.ensures.sorted)

pub returns-clause-same : goal.returns-clause-same
returns-clause-same c i =
    ap (λ (places : List ℕ). has_place places i) (dedup_is _ _ _ c.dedup.ensures.filtered) ∙ has_place-in_order _ _ i c.sort_unstable.ensures.permutation
