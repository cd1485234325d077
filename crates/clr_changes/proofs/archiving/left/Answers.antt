use Rattle.std.proofs.Common.{◌≡◌, ◌∙◌, Bor, ap, filter, map, not}
use Rattle.std.proofs.lemmas.Result.{IfOk-weaker}
use Rattle.clr_book.proofs.NearFacts.{filter_shown}
use Rattle.clr_rules.specs.StepKey.{step_key, step_key_cmp, step_key_cmp_total}
use Rattle.clr_rules.specs.declared.step_row.StepRow.{StepRow}
use Rattle.clr_shelf.proofs.KeyOrder.{in_key_order-filter}
use Rattle.clr_shelf.specs.Rows.{in_key_order}
use Rattle.clr_changes.specs.Archive.{gives_up}
use Rattle.clr_changes.proofs.archiving.left.Goals as goal

pub filled-requires : goal.filled-requires
filled-requires g c =
    let R = c.args.book.now.register in
    let shows = λ (row : Bor StepRow). row.now in
    let stays = λ (row : StepRow). not (gives_up c.args.before R row.id) in
    let all : map shows c.as_slice.result.now ≡ g.T.Shelf.rows c.args.steps.now = ap (map shows) c.as_slice.ensures.value ∙ c.in_ok-rows.ensures in
    let kept : map shows c.as_slice-2.result.now ≡ filter stays (g.T.Shelf.rows c.args.steps.now) =
    ap (map shows) (c.as_slice-2.ensures.value ∙ c.in_ok-kept.ensures) ∙ filter_shown shows stays c.as_slice.result.now ∙ ap (filter stays) all in
    ap (in_key_order step_key_cmp step_key) kept
    ∙ in_key_order-filter step_key_cmp step_key step_key_cmp_total stays (g.T.Shelf.rows c.args.steps.now) (g.met.T.Shelf.in_order c.args.steps.now)

pub returns : goal.returns
returns g c =
    let R = c.args.book.now.register in
    let shows = λ (row : Bor StepRow). row.now in
    let stays = λ (row : StepRow). not (gives_up c.args.before R row.id) in
    let all : map shows c.as_slice.result.now ≡ g.T.Shelf.rows c.args.steps.now = ap (map shows) c.as_slice.ensures.value ∙ c.in_ok-rows.ensures in
    let kept : map shows c.as_slice-2.result.now ≡ filter stays (g.T.Shelf.rows c.args.steps.now) =
    ap (map shows) (c.as_slice-2.ensures.value ∙ c.in_ok-kept.ensures) ∙ filter_shown shows stays c.as_slice.result.now ∙ ap (filter stays) all in
    IfOk-weaker c.filled.result _ _ (λ shelf is. is ∙ kept) c.filled.ensures
