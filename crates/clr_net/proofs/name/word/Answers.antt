use Rattle.std.proofs.Common.{◌∙◌, arith}
use Rattle.clr_net.proofs.NameOrder.{word_spelt}
use Rattle.clr_net.proofs.name.word.Goals as goal

pub returns : goal.returns
returns c = c.from_be_bytes.ensures ∙ word_spelt c.args.cells.now c.args.place (omega arith)
