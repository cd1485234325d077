use Rattle.std.proofs.Common.{◌∙◌, ◌==◌, ap, map, Bor}
use Rattle.clr_book.proofs.NearFacts.{filter_shown}
use Rattle.clr_rules.specs.Steps.{points_of}
use Rattle.clr_rules.specs.declared.step_row.StepRow.{StepRow}
use Rattle.clr_book.proofs.own.looked_steps.Goals as goal

pub returns-in_ok-found-in-Instruct : goal.returns-in_ok-found-in-Instruct
returns-in_ok-found-in-Instruct c =
    rw c.in-Instruct.is
    (ap points_of (ap (map (λ (row : Bor StepRow). row.now)) c.in_ok-found-in-Instruct.ensures
    ∙ filter_shown (λ (row : Bor StepRow). row.now) (λ row. row.ordinal == c.in-Instruct.step) c.args.steps.now))

pub returns-in_ok-found-in-Restore : goal.returns-in_ok-found-in-Restore
unfolding Rattle.clr_rules.specs.GoodByPhase.of_round
returns-in_ok-found-in-Restore c =
    rw c.in-Restore.is
    (ap points_of (ap (map (λ (row : Bor StepRow). row.now)) c.in_ok-found-in-Restore.ensures
    ∙ filter_shown (λ (row : Bor StepRow). row.now) (λ row. row.round == 1) c.args.steps.now))
