use Rattle.std.proofs.Common.{◌∙◌, ap, is_ok, sym}
use Rattle.clr_answer.proofs.NameLists.{is_ok-search}
use Rattle.clr_answer.proofs.names.is_among_from.Goals as goal

pub returns-in-Ok : goal.returns-in-Ok
returns-in-Ok c = sym (ap is_ok c.in-Ok.is) ∙ is_ok-search c.args.names.now c.args.name c.binary_search.result c.requires c.binary_search.ensures.bound c.binary_search.ensures.position

pub returns-in-Err : goal.returns-in-Err
returns-in-Err c = sym (ap is_ok c.in-Err.is) ∙ is_ok-search c.args.names.now c.args.name c.binary_search.result c.requires c.binary_search.ensures.bound c.binary_search.ensures.position
