use Rattle.std.proofs.Common.{rules, is_lt}
use Rattle.std.proofs.lemmas.Fn.{always_returns_same}
use Rattle.clr_net.specs.Prelude.{name_cmp}
use Rattle.clr_net.proofs.Places.{rising_from_adjacent}
use Rattle.clr_net.proofs.named.rises.Goals as goal

pub returns : goal.returns
returns g c true_is = rising_from_adjacent g.R.Named.name_of c.args.rows.now c.is_sorted_by.result true_is
    (c.is_sorted_by.ensures.cases (λ row next. is_lt (name_cmp (g.R.Named.name_of row) (g.R.Named.name_of next))) (always_returns_same _ _ _ (λ a r f' h. search rules)))
