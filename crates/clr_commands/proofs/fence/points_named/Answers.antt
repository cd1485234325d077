use Rattle.std.proofs.Common.{◌∙◌, ap, sym, map, ◌+◌, drop, List, ℕ}
use Rattle.std.proofs.lemmas.List.{drop_more, drop_all}
use Rattle.clr_commands.specs.Fence.{points_named}
use Rattle.clr_commands.proofs.PointsNamed.{gives-fault, names_after, points_named-fault, points_named-more, points_named-nil}
use Rattle.clr_commands.proofs.fence.points_named.Goals as goal

pub returns-in_err-point_named-clause-answer : goal.returns-in_err-point_named-clause-answer
returns-in_err-point_named-clause-answer c =
    let g = c.args.network.now in
    let words = c.args.words.now in
    let names = c.loop-word.names.items in
    let told = c.loop-word.invariant
    ∙ ap (λ left. names_after names (points_named g (map (λ word. word.now) left))) (drop_more words c.loop-word.word-index _ c.loop-word-test.true)
    ∙ points_named-fault g _ _ names _ (sym c.in_err-point_named.ensures.answer) in
    gives-fault _ _ c.from_residual.result _ told c.from_residual.ensures.1

pub loop-word-preserved : goal.loop-word-preserved
loop-word-preserved c =
    let g = c.args.network.now in
    let words = c.args.words.now in
    let names = c.loop-word.names.items in
    c.loop-word.invariant
    ∙ ap (λ left. names_after names (points_named g (map (λ word. word.now) left))) (drop_more words c.loop-word.word-index _ c.loop-word-test.true)
    ∙ points_named-more g _ _ names _ (sym c.in_ok-point_named.ensures.answer)
    ∙ ap (λ done. names_after done (points_named g (map (λ word. word.now) (drop (c.loop-word.word-index + 1) words)))) (sym {A = List (List ℕ)} c.in_ok-push.ensures.items)

pub returns-clause-answer : goal.returns-clause-answer
returns-clause-answer c =
    let g = c.args.network.now in
    let names = c.loop-word.names.items in
    c.loop-word.invariant
    ∙ ap (λ left. names_after names (points_named g (map (λ word. word.now) left))) (drop_all c.loop-word.word-index c.args.words.now c.loop-word-test.false)
    ∙ points_named-nil g names
