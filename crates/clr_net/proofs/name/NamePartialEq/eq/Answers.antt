use Rattle.std.proofs.Common.{ℕ, ◌&&◌, ◌==◌, ◌∙◌, ap₂}
use Rattle.clr_net.proofs.NameOrder.{same_by_words}
use Rattle.clr_net.proofs.name.NamePartialEq.eq.Goals as goal

pub returns : goal.returns
returns c =
    c.eq.ensures ∙ ap₂ (λ (v : ℕ × ℕ × ℕ) (w : ℕ × ℕ × ℕ). ((v.0 == w.0) && (v.1 == w.1)) && (v.2 == w.2)) c.words.ensures.words c.words-2.ensures.words
    ∙ same_by_words c.args.self.now c.args.other.now c.words.ensures.name c.words-2.ensures.name
