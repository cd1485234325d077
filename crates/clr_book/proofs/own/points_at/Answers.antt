use Rattle.std.proofs.Common.{◌∙◌, ap, map, Bor, List, ℕ}
use Rattle.clr_book.proofs.NearFacts.{points_shown}
use Rattle.clr_net.specs.Names.{has_name}
use Rattle.clr_rules.specs.declared.step_row.StepRow.{StepRow}
use Rattle.clr_book.proofs.own.points_at.Goals as goal

pub returns-clause-same : goal.returns-clause-same
returns-clause-same c p =
    c.in_order.ensures.same p
    ∙ ap (λ (names : List (List ℕ)). has_name names p)
    (c.in_ok-points.ensures
    ∙ ap (map (λ (row : Bor StepRow). row.now.step.point)) c.deref.ensures.value
    ∙ points_shown (λ (row : Bor StepRow). row.now) c.in_ok-looked.looked.items
    ∙ c.in_ok-looked.ensures)
