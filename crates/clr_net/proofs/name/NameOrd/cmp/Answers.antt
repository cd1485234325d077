use Rattle.std.proofs.Common.{◌∙◌, ap₂}
use Rattle.clr_net.proofs.NameOrder.{words_cmp, names_by_words}
use Rattle.clr_net.proofs.name.NameOrd.cmp.Goals as goal

pub returns : goal.returns
returns c =
    c.cmp.ensures ∙ ap₂ words_cmp c.words.ensures.words c.words-2.ensures.words
    ∙ names_by_words c.args.self.now c.args.other.now c.words.ensures.name c.words-2.ensures.name
