use Rattle.std.proofs.Common.{◌≡◌, ◌∙◌, ℕ, List, [], ap, sym, take, option_and_then}
use Rattle.std.proofs.lemmas.Result.{IfOk-weaker}
use Rattle.clr_journal.specs.Lines.{ended_lines}
use Rattle.clr_chain.specs.Finding.{first_of, first_text_of}
use Rattle.clr_chain.specs.First.{read_first}
use Rattle.clr_chain.proofs.first.first_of.Goals as goal

by_lines : (bytes front : List ℕ) (lines : List (List ℕ)) → front ≡ take 4096 bytes → ended_lines front ≡ lines → option_and_then read_first (first_text_of lines) ≡ first_of bytes
by_lines bytes front lines is read =
    ap (λ texts. option_and_then read_first (first_text_of texts)) (sym read ∙ ap ended_lines is)

pub returns-in-Some : goal.returns-in-Some
returns-in-Some c =
    let first = by_lines c.args.bytes.now c.front_of.result.now _ c.front_of.ensures c.in-Some.ensures.some in
    IfOk-weaker c.read_first.result _ _ (λ place h. h ∙ first) c.read_first.ensures

pub returns-in-None : goal.returns-in-None
returns-in-None c = by_lines c.args.bytes.now c.front_of.result.now [] c.front_of.ensures c.in-None.ensures.none
