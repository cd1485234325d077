use Rattle.std.proofs.Common.{◌∙◌, sym}
use Rattle.clr_net.proofs.Places.{find_got, find_none}
use Rattle.clr_net.proofs.named.row_of.Goals as goal

pub returns-in-Some : goal.returns-in-Some
returns-in-Some g c = find_got g.R.Named.name_of c.args.rows.now c.args.name c.in-Some.place c.get.result (sym c.place_of.ensures ∙ c.in-Some.is) c.get.ensures.lookup

pub returns-in-None : goal.returns-in-None
returns-in-None g c = find_none g.R.Named.name_of c.args.rows.now c.args.name (sym c.place_of.ensures ∙ c.in-None.is)
