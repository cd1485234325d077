use Rattle.std.proofs.Common.{◌≡◌, ℕ, ◌<◌, List, map, take, false}
use Rattle.std.specs.BTreeSet.{contains}
use Rattle.clr_net.specs.Name.{name_cmp}
use Rattle.clr_net.specs.Names.{has_name, is_repeat}
use Rattle.clr_net.proofs.named.repeat_place.Given as goal

abbrev pub invariant-loop-place : goal.invariant-loop-place
invariant-loop-place g l = record {
  seen : (q : List ℕ) → contains name_cmp l.seen q ≡ has_name (take l.place (map g.R.Named.name_of l.rows)) q;
  none : (k : ℕ) → k < l.place → is_repeat (map g.R.Named.name_of l.rows) k ≡ false;
}
