use Rattle.std.proofs.Common.{◌≡◌, ◌∙◌, ℕ, List, [], ap, sym, take, option_and_then}
use Rattle.std.proofs.lemmas.Result.{IfOk-weaker}
use Rattle.clr_journal.specs.Lines.{ended_lines}
use Rattle.clr_chain.specs.Finding.{first_text_of, other_rules_of}
use Rattle.clr_chain.specs.First.{other_rules_in}
use Rattle.clr_chain.proofs.first.other_rules_of.Goals as goal

by_lines : (bytes front : List ℕ) (lines : List (List ℕ)) → front ≡ take 4096 bytes → ended_lines front ≡ lines
    → option_and_then other_rules_in (first_text_of lines) ≡ other_rules_of bytes
by_lines bytes front lines is read =
    ap (λ texts. option_and_then other_rules_in (first_text_of texts)) (sym read ∙ ap ended_lines is)

pub returns-in-Some : goal.returns-in-Some
returns-in-Some c =
    let named = by_lines c.args.bytes.now c.front_of.result.now _ c.front_of.ensures c.in-Some.ensures.some in
    IfOk-weaker c.other_rules_in.result _ _ (λ number h. h ∙ named) c.other_rules_in.ensures

pub returns-in-None : goal.returns-in-None
returns-in-None c = by_lines c.args.bytes.now c.front_of.result.now [] c.front_of.ensures c.in-None.ensures.none
