use Rattle.std.proofs.Common.{map, rules, IsSortedByKey}
use Rattle.std.proofs.lemmas.Cmp.{nat_list_eq_equiv}
use Rattle.std.proofs.lemmas.Fn.{always_returns_same}
use Rattle.std.proofs.lemmas.List.Sorted.{IsPermutation-map}
use Rattle.std.proofs.lemmas.Map.Keys.{IsDistinct-IsPermutation}
use Rattle.clr_net.specs.Prelude.{name_cmp, same_name}
use Rattle.clr_net.proofs.Places.{rising_from_sorted}
use Rattle.clr_net.proofs.named.sort_by_name.Goals as goal

pub returns-clause-sorted : goal.returns-clause-sorted
returns-clause-sorted g c = c.sort_unstable_by_key.ensures.sorted g.R.Named.name_of (always_returns_same _ _ _ (λ a r f' h. search rules))

pub returns-clause-rising : goal.returns-clause-rising
returns-clause-rising g c once =
    let old = c.args.rows.now.items in
    let new = c.sort_unstable_by_key.new.self.items in
    let sorted : IsSortedByKey g.R.Named.name_of name_cmp new = c.sort_unstable_by_key.ensures.sorted g.R.Named.name_of (always_returns_same _ _ _ (λ a r f' h. search rules)) in
    rising_from_sorted g.R.Named.name_of new sorted
    (IsDistinct-IsPermutation same_name nat_list_eq_equiv.symm (map g.R.Named.name_of old) (map g.R.Named.name_of new) (IsPermutation-map g.R.Named.name_of old new c.sort_unstable_by_key.ensures.permutation) once)
