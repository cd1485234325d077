use Rattle.std.proofs.Common.{◌≡◌, ◌∙◌, ◌+◌, ◌*◌, Bor, ap, map, length, rules, ℕ}
use Rattle.clr_rules.specs.Steps.{steps_in, steps_of}
use Rattle.clr_rules.specs.declared.step_row.StepRow.{StepRow}
use Rattle.clr_wayback.proofs.Found.{round_length}
use Rattle.clr_wayback.proofs.walk.enough_turns.Goals as goal

pub returns : goal.returns
returns g c =
    let steps = c.args.book.now.register.steps in
    let id = c.args.id.now in
    let lent : map (λ (row : Bor StepRow). row.now) c.deref.result.now ≡ steps_of steps id = search rules in
    let left : c.count_of_round-left.result ≡ length (steps_in steps id 2) =
    c.count_of_round-left.ensures ∙ round_length c.deref.result.now steps id 2 lent in
    let holds : c.len.result ≡ length c.args.book.now.register.holds = search rules in
    ap (λ (n : ℕ). 5 * (257 + n) + c.len.result) left ∙ ap (λ (n : ℕ). 5 * (257 + length (steps_in steps id 2)) + n) holds
