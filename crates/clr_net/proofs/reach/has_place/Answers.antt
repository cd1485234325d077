use Rattle.std.proofs.Common.{◌∙◌}
use Rattle.clr_net.proofs.PlaceLists.{is_ok-search}
use Rattle.clr_net.proofs.reach.has_place.Goals as goal

pub returns : goal.returns
returns c = c.is_ok.ensures.value ∙ is_ok-search c.args.places.now c.args.place c.binary_search.result c.requires c.binary_search.ensures.bound c.binary_search.ensures.position
