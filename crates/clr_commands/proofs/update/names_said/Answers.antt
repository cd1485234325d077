use Rattle.std.proofs.Common.{◌≡◌, ◌∙◌, ap, sym, map, ◌+◌, drop, List, [], ℕ, rules}
use Rattle.std.proofs.lemmas.List.{drop_more, drop_all}
use Rattle.clr_commands.specs.Update.{names_said}
use Rattle.clr_commands.proofs.PointsNamed.{gives-fault, names_after, names_after-nil}
use Rattle.clr_commands.proofs.Updating.{names_said-fault, names_said-more, names_said-nil}
use Rattle.clr_commands.proofs.update.names_said.Goals as goal

pub loop-word-init : goal.loop-word-init
loop-word-init c =
    let begun : c.new-names.result.items ≡ [] = search rules in
    sym (names_after-nil _) ∙ ap (λ (names : List (List ℕ)). names_after names (names_said (map (λ word. word.now) c.args.words.now))) (sym begun)

pub returns-in_err-name_said-clause-answer : goal.returns-in_err-name_said-clause-answer
returns-in_err-name_said-clause-answer c =
    let words = c.args.words.now in
    let names = c.loop-word.names.items in
    let report = c.loop-word.invariant
    ∙ ap (λ left. names_after names (names_said (map (λ word. word.now) left))) (drop_more words c.loop-word.word-index _ c.loop-word-test.true)
    ∙ names_said-fault _ _ names _ (sym c.in_err-name_said.ensures.answer) in
    gives-fault _ _ c.from_residual.result _ report c.from_residual.ensures.1

pub loop-word-preserved : goal.loop-word-preserved
loop-word-preserved c =
    let words = c.args.words.now in
    let names = c.loop-word.names.items in
    c.loop-word.invariant
    ∙ ap (λ left. names_after names (names_said (map (λ word. word.now) left))) (drop_more words c.loop-word.word-index _ c.loop-word-test.true)
    ∙ names_said-more _ _ names _ (sym c.in_ok-name_said.ensures.answer)
    ∙ ap (λ done. names_after done (names_said (map (λ word. word.now) (drop (c.loop-word.word-index + 1) words)))) (sym {A = List (List ℕ)} c.in_ok-push.ensures.items)

pub returns-clause-answer : goal.returns-clause-answer
returns-clause-answer c =
    let names = c.loop-word.names.items in
    c.loop-word.invariant
    ∙ ap (λ left. names_after names (names_said (map (λ word. word.now) left))) (drop_all c.loop-word.word-index c.args.words.now c.loop-word-test.false)
    ∙ names_said-nil names
