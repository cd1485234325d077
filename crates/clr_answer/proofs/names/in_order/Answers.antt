use Rattle.std.proofs.Common.{◌∙◌, ap, ℕ, List}
use Rattle.std.proofs.lemmas.Cmp.{nat_list_cmp_total}
use Rattle.std.specs.Cmp.Lexicographic.{texts_ties}
use Rattle.std.proofs.lemmas.List.Filters.{dedup_is}
use Rattle.std.proofs.lemmas.List.Kept.{IsStrictlySortedBy-dedup}
use Rattle.clr_net.specs.Name.{same_name}
use Rattle.clr_net.specs.Names.{has_name}
use Rattle.clr_answer.proofs.NameLists.{has_name-in_order}
use Rattle.clr_answer.proofs.names.in_order.Goals as goal

pub returns-clause-rising : goal.returns-clause-rising
returns-clause-rising c =
    let kept = dedup_is same_name _ _ c.dedup.ensures.filtered in
    rw kept (IsStrictlySortedBy-dedup nat_list_cmp_total texts_ties _ c.sort_unstable.ensures.sorted)

pub returns-clause-same : goal.returns-clause-same
returns-clause-same c name =
    let kept = dedup_is same_name _ _ c.dedup.ensures.filtered in
    ap (λ (names : List (List ℕ)). has_name names name) kept ∙ has_name-in_order _ _ name c.sort_unstable.ensures.permutation
