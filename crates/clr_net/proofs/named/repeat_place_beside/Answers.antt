use Rattle.std.proofs.Common.{map, sym}
use Rattle.clr_net.proofs.Places.{no_repeat, once_from_rising}
use Rattle.clr_net.proofs.named.repeat_place_beside.Goals as goal

pub returns-then-rises-clause-place : goal.returns-then-rises-clause-place
returns-then-rises-clause-place g c =
    sym (no_repeat (map g.R.Named.name_of c.args.rows.now)
    (once_from_rising g.R.Named.name_of c.args.rows.now c.args.ordered.now c.requires (c.rises.ensures c.if-rises.true)))

pub returns-then-rises-clause-once : goal.returns-then-rises-clause-once
returns-then-rises-clause-once g c =
    once_from_rising g.R.Named.name_of c.args.rows.now c.args.ordered.now c.requires (c.rises.ensures c.if-rises.true)
