use Rattle.std.proofs.Common.{◌≡◌, ◌∙◌, ap, sym, option_map, option_copied, Some, None, rules}
use Rattle.clr_order.specs.Step.{task}
use Rattle.clr_log.specs.Steps.{left_if}
use Rattle.clr_log.proofs.Backwards.{numbered_at}
use Rattle.clr_log.proofs.steps.step_given.Goals as goal

pub returns-in-Some : goal.returns-in-Some
returns-in-Some c =
    let found = numbered_at c.args.number c.from.result c.get.result c.as_slice.result.now c.args.steps.now c.if-number-eq0.false c.from.ensures c.as_slice.ensures c.get.ensures.lookup.1 c.get.ensures.lookup.3 in
    ap Some c.left_if.ensures ∙ ap (option_map (left_if c.args.amended)) (ap (λ seen. option_map task (option_copied seen)) (sym c.in-Some.is) ∙ found)

pub returns-in-None : goal.returns-in-None
returns-in-None c =
    let found = numbered_at c.args.number c.from.result c.get.result c.as_slice.result.now c.args.steps.now c.if-number-eq0.false c.from.ensures c.as_slice.ensures c.get.ensures.lookup.1 c.get.ensures.lookup.3 in
    ap (option_map (left_if c.args.amended)) (ap (λ seen. option_map task (option_copied seen)) (sym c.in-None.is) ∙ found)
