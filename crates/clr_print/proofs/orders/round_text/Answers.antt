use Rattle.std.proofs.Common.{◌≡◌, ◌∙◌, sym, ap, List, ℕ, ◌++◌, Some, false, codes, Bor, map, length, ◌==◌, flat_map}
use Rattle.clr_print.specs.Printed.{step_line}
use Rattle.clr_print.proofs.RowsLent.{some_rows}
use Rattle.clr_print.proofs.orders.round_text.Goals as goal
use Rattle.clr_rules.specs.declared.step_row.StepRow.{StepRow}

pub returns : goal.returns
returns c =
    let some : (length c.args.rows.now == 0) ≡ false = sym c.is_empty.ensures ∙ c.if-is_empty.false in
    let steps : List ℕ = flat_map step_line (map (λ (row : Bor StepRow). row.now) c.args.rows.now) in
    let text = c.in_ok-push_str.ensures.bytes
    ∙ ap (λ (s : List ℕ). s ++ codes "END\n") (c.in_ok-push_steps.ensures ∙ ap (λ (s : List ℕ). s ++ steps) c.in_ok-text.ensures) in
    rw (some_rows (λ (row : Bor StepRow). row.now) c.args.rows.now some) (ap Some text)
