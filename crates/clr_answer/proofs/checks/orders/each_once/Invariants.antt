use Rattle.std.proofs.Common.{◌≡◌, ◌++◌, ℕ, List, drop}
use Rattle.std.specs.BTreeSet.{contains}
use Rattle.clr_net.specs.Name.{name_cmp}
use Rattle.clr_net.specs.Names.{has_name}
use Rattle.clr_rules.specs.Holds.{first_of_each}
use Rattle.clr_answer.proofs.OnceFacts.{others}
use Rattle.clr_answer.proofs.checks.orders.each_once.Given as goal

abbrev pub invariant-loop-name : goal.invariant-loop-name
invariant-loop-name l = record {
  met : (q : List ℕ) → contains name_cmp l.met q ≡ has_name l.kept.items q;
  once : l.kept.items ++ others l.kept.items (first_of_each (drop l.name-index l.names)) ≡ first_of_each l.names;
}
