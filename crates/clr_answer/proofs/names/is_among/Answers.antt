use Rattle.std.proofs.Common.{◌∙◌}
use Rattle.clr_answer.proofs.NameLists.{is_ok-search}
use Rattle.clr_answer.proofs.names.is_among.Goals as goal

pub returns : goal.returns
returns c = c.is_ok.ensures.value ∙ is_ok-search c.args.names.now c.args.name c.binary_search.result c.requires c.binary_search.ensures.bound c.binary_search.ensures.position
